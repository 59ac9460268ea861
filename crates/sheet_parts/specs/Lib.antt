pub mod Types
pub mod Rule
pub mod Scope
