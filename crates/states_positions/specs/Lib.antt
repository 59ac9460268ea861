pub mod MoveKind
pub mod Role
pub mod Row
pub mod Types
