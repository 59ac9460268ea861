pub mod Figures
mod Headings
