-- the laws of the formulas at the integers, and small figures
pub mod Laws
pub mod Figures
-- a relation that the operations keep, the formulas keep: over any two kinds of number; and at equality
pub mod Related
pub mod Rising
pub mod Alike
pub mod Operations
pub mod CarryAlike
pub mod UpTo
pub mod Quotients
pub mod Norms
pub mod UpToQuotients
-- jets that agree up to an order: the same lists and arrays
pub mod Same
-- the graded index
pub mod Layers
pub mod Graded
-- the integers: a ring, finite sums, exact division
pub mod Ints
pub mod Ring
pub mod Sums
pub mod Division
-- part lists and their multiplicities
pub mod Binom
pub mod Desc
pub mod Out
pub mod Mult
-- jets of integers in any number of variables, and the chain rule
pub mod Jets
pub mod Curves
pub mod Space
pub mod Jet
pub mod Faa
pub mod Tensor
pub mod Carried
pub mod Algebra
pub mod Fields
pub mod Closed
-- the formulas at the integers are those
pub mod Plain
pub mod Entries
pub mod Masks
pub mod Quotient
-- a kind of jet: the answer by the tests that led to it
pub mod Tested
pub mod Passed
-- what loops need, by the name `Loop…`: arrays that are filled in turn, the table of binomial coefficients, the order of work, lists that are
-- written, the bits of masks, walks over part lists
pub mod LoopFilling
pub mod LoopSurfaceFilling
pub mod LoopSurfaceFilled
pub mod LoopPascal
pub mod LoopTable
pub mod LoopPlaces
pub mod LoopBlanks
pub mod LoopLeft
pub mod LoopWriting
pub mod LoopWritten
pub mod LoopPairs
pub mod LoopBits
pub mod LoopWalking
pub mod LoopCut
pub mod LoopShifts
pub mod LoopTerms
pub mod LoopOrders
