-- an answer is the verdict on all that was formed and divided, beside the integers' own values
pub mod Judged
pub mod CarryJudged
-- jets that agree up to the order have the same answer
pub mod Same
-- an array that a copy fills; the answer that entries make
pub mod Filled
pub mod Answers
-- the tests of the orders of a carry
pub mod Orders
