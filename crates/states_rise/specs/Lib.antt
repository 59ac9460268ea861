pub mod Up
