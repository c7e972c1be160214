pub mod Figures
pub mod Refusals
