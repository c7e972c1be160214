pub mod Formulas
pub mod Inner
