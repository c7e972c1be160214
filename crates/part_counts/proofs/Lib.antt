-- the lists without dead ends
pub mod Pruned
-- what the multiplicities of a len come to, and how many lists it has
pub mod Stirling
pub mod Total
pub mod Steps
pub mod Many
