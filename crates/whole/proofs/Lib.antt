-- the operations at 64 bits
pub mod Range
pub mod Quotients
-- what an answer says, and numbers with their history
pub mod Answers
pub mod History
