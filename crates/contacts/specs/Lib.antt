pub mod Center
