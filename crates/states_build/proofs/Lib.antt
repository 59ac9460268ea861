pub mod Room
pub mod Building
