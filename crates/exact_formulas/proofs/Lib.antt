pub mod Terms
pub mod Work
pub mod Progress
pub mod Earlier
pub mod Formulas
