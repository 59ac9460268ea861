pub mod NumberLaws
pub mod OperatorLaws
pub mod RemainderLaws
pub mod InfinityLaws
pub mod OrderLaws
pub mod AskOnceLaws
