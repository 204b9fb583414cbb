pub mod Lifts
