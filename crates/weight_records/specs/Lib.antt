pub mod Few
pub mod inner
