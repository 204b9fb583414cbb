pub mod Gravest
pub mod Checks
