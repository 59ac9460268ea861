-- What only contracts of inner functions and invariants of loops cite.
pub mod Linking
pub mod Touching
pub mod Sources
