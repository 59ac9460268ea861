pub mod Stack
pub mod Shows
pub mod Plan
pub mod Step
pub mod Weighed
