pub mod Recipe
pub mod Roads
pub mod Formed
