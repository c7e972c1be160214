-- the two roads meet
pub mod Theorem
pub mod Examples
-- what its proof is made of, from a single number up
pub mod Sound
pub mod Operations
pub mod Answers
pub mod Meeting
pub mod Induction
pub mod Inputs
-- the orders of what is answered
pub mod Answered
-- the loops of the functions
pub mod Tests
pub mod Working
pub mod Carrying
pub mod Building
