pub mod Merging
pub mod ClassLaws
pub mod Trace
pub mod Spell
