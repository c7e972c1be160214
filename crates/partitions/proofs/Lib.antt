-- the lists are what they are said to be, each is the next of the one before it, and the walk gives each once
pub mod Down
pub mod Lists
pub mod Member
pub mod Successor
pub mod Walked
-- the multiplicity: its divisions are exact; the factorials, and the table of the Stirling numbers
pub mod Out
pub mod Mult
pub mod Runs
pub mod Exact
pub mod FactorialProduct
pub mod Triangle
-- what the functions need: cases on a test, tests of all numbers below a bound, slices, an array's tail that is lent, and what a start and a step find
pub mod Tests
pub mod Below
pub mod Slices
pub mod Tail
pub mod Moves
pub mod Counted
pub mod Stepping
