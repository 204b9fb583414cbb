pub mod Overs
pub mod Judgings
pub mod Stops
pub mod Ends
pub mod Answered
pub mod Comes
pub mod Telling
