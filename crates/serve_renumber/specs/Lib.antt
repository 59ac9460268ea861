pub mod Outcome
pub mod Work
pub mod Found
pub mod Service
