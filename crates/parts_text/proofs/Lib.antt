-- what is printed is what the whole input says, in however many pieces it was fed; when it need not be read on; inputs with what is printed for them
pub mod Laws
pub mod Settled
pub mod Examples
-- what the functions need: the steps of a reading, texts that are written, their room, and the walk whose lines they are
pub mod Fed
pub mod Puts
pub mod Lengths
pub mod Fits
pub mod Going
