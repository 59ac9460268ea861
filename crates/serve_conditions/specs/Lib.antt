pub mod Lent
pub mod Figure
pub mod Pair
pub mod inner
