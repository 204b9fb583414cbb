pub mod Operators
pub mod Ops
pub mod Laws
pub mod Below
pub mod Lawful
pub mod Five
pub mod Two
