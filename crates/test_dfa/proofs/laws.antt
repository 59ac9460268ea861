pub mod Tested
pub mod Answer
