pub mod Tests
pub mod JudgeLaws
