-- The table of parts: cited by inner contracts only.
pub mod Notes
pub mod Number
pub mod Fill
pub mod Close
