pub mod Compares
pub mod Replays
pub mod States
