pub mod Listed
pub mod Fits
pub mod Lent
pub mod Short
pub mod Holds
pub mod HoldsChanges
