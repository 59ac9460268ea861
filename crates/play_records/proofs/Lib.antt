pub mod Parsing
pub mod Counting
pub mod WritingPlays
pub mod Written
pub mod ParsingSteps
pub mod PlayRecords
