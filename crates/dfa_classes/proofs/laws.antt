-- Laws that the proofs of this crate cite.
pub mod Packed
pub mod Linking
pub mod Places
pub mod Touching
pub mod Sources
