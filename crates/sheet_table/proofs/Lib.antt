pub mod Rows
pub mod Spans
pub mod Stored
pub mod Shows
pub mod Noting
pub mod weights
pub mod Seating
pub mod Tabling
