pub mod Solved
pub mod Untouched
