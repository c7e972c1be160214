pub mod Numbers
-- what is answered is written whole
pub mod Delivered
