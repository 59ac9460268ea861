-- The machine of a term: actions, positions, steps, numbers for its states, and the automaton of a whole sheet.
pub mod Action
pub mod Decide
pub mod Position
pub mod Step
pub mod Numbered
pub mod Numbering
pub mod Edge
pub mod Settle
pub mod Sheet
pub mod Range
pub mod Degree
