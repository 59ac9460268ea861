pub mod Writing
pub mod Wording
pub mod Halves
pub mod Numbers
