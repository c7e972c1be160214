pub mod Delivery
pub mod Records
