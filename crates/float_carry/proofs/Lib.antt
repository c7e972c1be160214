-- multiplicities as floats; the terms of the carry and the carried jet
pub mod Counts
pub mod Carries
