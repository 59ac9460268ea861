pub mod PartsFew
pub mod Steps
pub mod Short
pub mod Bare
pub mod Plans
pub mod Sums
pub mod Whole
