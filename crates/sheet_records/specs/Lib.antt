pub mod Limits
pub mod Kind
pub mod Standing
pub mod Refusal
