pub mod Rodrigues
pub mod Rotation
pub mod Circle
