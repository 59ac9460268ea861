-- What the code computes, case by case, and what it means: cited by inner contracts and theorems only.
pub mod Waiting
pub mod Rows
pub mod Moves
pub mod Acts
pub mod Ranged
pub mod Shown
pub mod Ready
pub mod Sheets
