pub mod Kinds
pub mod Places
pub mod InWords
pub mod inner
