pub mod Links
pub mod Sums
pub mod Marks
pub mod Marking
pub mod Marked
