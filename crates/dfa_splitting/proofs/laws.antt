-- Laws that the proofs of this crate cite.
pub mod Into
pub mod Mixed
pub mod Signs
pub mod Exact
pub mod Grouping
pub mod Splitting
pub mod Renaming
pub mod Refining
