pub mod Positions
pub mod Smallest
pub mod Card
pub mod Reading
pub mod Promise
pub mod Rules
pub mod inner
