pub mod Orders
pub mod Ring
pub mod Derivation
pub mod Entries
pub mod ByAngle
pub mod ByAxis
pub mod Derivatives
pub mod Polynomials
