-- That the step on numbers is the machine's step: laws of numbers, rows and types, then of the ways down and up.
pub mod Steps
pub mod Sums
pub mod TypeNumbers
pub mod Parts
pub mod Arguments
pub mod Hearing
pub mod Lifting
pub mod Variables
pub mod Walking
pub mod Faithful
