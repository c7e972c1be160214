pub mod Parameters
pub mod Partials
pub mod AxisAngle
pub mod Pairs
