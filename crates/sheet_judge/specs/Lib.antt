pub mod Size
pub mod Mark
pub mod Check
pub mod Masks
pub mod Judged
