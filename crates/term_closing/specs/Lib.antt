pub mod Rows
pub mod Close
