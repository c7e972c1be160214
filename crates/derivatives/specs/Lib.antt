pub mod Jets
pub mod Answer
pub mod Composite
pub mod Inner
