pub mod ExactSteps
pub mod NumberSteps
