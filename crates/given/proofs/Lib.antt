pub mod Admission
-- what is answered is written whole
pub mod Delivered
pub mod Answered
