-- What the code computes of a state of a whole sheet and of the path of parts to it, and what it means: cited by inner
-- contracts and theorems only.
pub mod States
pub mod Path
pub mod Field
pub mod Levels
pub mod Kept
pub mod Ways
