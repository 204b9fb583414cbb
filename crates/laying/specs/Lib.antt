pub mod Lays
