pub mod Answer
pub mod Lives
pub mod Tested
