pub mod Examples
pub mod Tests
pub mod Tested
pub mod CenterFigures
pub mod PartialFigures
