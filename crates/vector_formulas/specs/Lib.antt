pub mod Vector
pub mod Formulas
pub mod Inner
