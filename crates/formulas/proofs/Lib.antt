pub mod Finite
pub mod Curves
pub mod Surfaces
pub mod Sums
pub mod Coefficients
