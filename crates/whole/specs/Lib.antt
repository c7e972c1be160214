pub mod Checked
pub mod History
