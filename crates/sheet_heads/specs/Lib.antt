pub mod Head
pub mod Bare
