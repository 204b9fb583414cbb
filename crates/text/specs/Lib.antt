pub mod Rows
pub mod Guesses
pub mod Faults
pub mod Netlists
pub mod Readings
pub mod Pairs
pub mod Reports
pub mod Answers
