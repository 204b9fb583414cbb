pub mod Refusals
pub mod Reports
pub mod Outcomes
pub mod Limits
