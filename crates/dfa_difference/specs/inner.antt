-- What only contracts of inner functions and invariants of loops cite.
pub mod Comparison
pub mod Queue
pub mod State
pub mod Level
pub mod Search
