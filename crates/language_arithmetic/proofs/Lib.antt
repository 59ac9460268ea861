pub mod OperatorSteps
pub mod RemainderSteps
