pub mod Given
pub mod Lists
pub mod Values
