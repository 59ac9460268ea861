pub mod inner
pub mod Tabled
