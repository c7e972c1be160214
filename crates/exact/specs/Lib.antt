pub mod Answer
pub mod Names
pub mod Judged
pub mod Composite
