-- What only contracts of inner functions and invariants of loops cite.
pub mod Into
pub mod Signs
pub mod Grouping
pub mod Splitting
pub mod Renaming
pub mod Refining
