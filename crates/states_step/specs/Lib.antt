-- The step on numbers.
pub mod walk
