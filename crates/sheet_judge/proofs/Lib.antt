pub mod Places
pub mod Masking
pub mod Judging
