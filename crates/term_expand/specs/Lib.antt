pub mod Local
pub mod Contract
pub mod Words
pub mod Types
