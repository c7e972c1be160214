pub mod Vectors
pub mod Matrices
pub mod Finite
