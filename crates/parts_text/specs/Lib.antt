pub mod Text
pub mod Printed
pub mod Reading
pub mod Inner
