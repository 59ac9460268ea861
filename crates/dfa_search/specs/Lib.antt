pub mod Spelled
pub mod Classes
pub mod Trace
