pub mod PartKind
pub mod Class
pub mod Row
pub mod Rep
