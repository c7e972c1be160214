pub mod Real
pub mod Numbers
pub mod Operations
pub mod Inner
