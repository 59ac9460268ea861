-- Letters of moves, words that show an automaton, and what the code computes.
pub mod Letter
pub mod Explicit
pub mod inner
