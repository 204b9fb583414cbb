pub mod Codes
pub mod Chains
pub mod Uses
pub mod Views
pub mod Shortcuts
pub mod Targets
pub mod Tasks
pub mod Settles
