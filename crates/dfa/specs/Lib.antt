pub mod Graph
pub mod Word
pub mod Reading
pub mod Live
pub mod Frame
pub mod Step
pub mod inner
