pub mod Kinds
pub mod Entries
pub mod Inner
