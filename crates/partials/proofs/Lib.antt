pub mod Placed
pub mod Turning
