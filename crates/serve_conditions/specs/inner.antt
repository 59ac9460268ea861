-- What only theorems about the words asked cite.
pub mod Enough
