pub mod Copying
pub mod Loading
