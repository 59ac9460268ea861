pub mod Reported
pub mod Changes
pub mod Program
