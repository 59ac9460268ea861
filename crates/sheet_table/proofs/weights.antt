-- The weights that reading leaves.
pub mod Keeping
pub mod ReadyAlong
pub mod Parts
pub mod Record
pub mod Plain
pub mod Procedure
pub mod Weights
