pub mod Answers
pub mod Jets
pub mod Center
pub mod Partials
pub mod PartialAnswer
pub mod SubDer
