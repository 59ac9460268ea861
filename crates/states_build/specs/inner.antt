-- What only contracts of inner functions and theorems about them cite.
pub mod Built
