-- Laws that the proofs of this crate cite.
pub mod Laying
pub mod Kinds
pub mod Moves
pub mod Edges
pub mod Positions
