-- the numbers are 1 to 11, and tell the refusals apart
pub mod Numbers
