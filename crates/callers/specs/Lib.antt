pub mod Graphs
pub mod Parity
