-- What only invariants of loops cite.
pub mod Laying
