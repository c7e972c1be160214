pub mod SquareRoot
pub mod Nearest
