pub mod Encoding
pub mod Fine
pub mod Heading
pub mod Reader
pub mod Agreement
pub mod table
