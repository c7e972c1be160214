pub mod Passed
pub mod Answers
pub mod Listed
