pub mod Around
pub mod Part
pub mod Bytes
pub mod Rules
pub mod Wrong
