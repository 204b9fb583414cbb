pub mod Pairings
pub mod Comparings
pub mod Erased
pub mod Reruns
