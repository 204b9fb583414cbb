pub mod Links
pub mod Nodes
pub mod Passes
pub mod Fulls
pub mod Telling
