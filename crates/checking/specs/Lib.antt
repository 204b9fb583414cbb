pub mod Gradings
pub mod Checks
