pub mod Pages
pub mod Decimals
pub mod Printed
pub mod Answers
pub mod Sample
pub mod Numbers
