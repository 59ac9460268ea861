pub mod Places
pub mod Packed
pub mod Parted
pub mod inner
