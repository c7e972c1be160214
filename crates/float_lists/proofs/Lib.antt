-- what is answered is written whole
pub mod Finite
pub mod Delivered
pub mod VectorsDelivered
