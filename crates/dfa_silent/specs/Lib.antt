pub mod Silent
pub mod inner
