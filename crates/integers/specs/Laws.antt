-- Proved facts of signed numbers and vectors, stated once for any length and any bound.
pub mod Difference
pub mod Signed
pub mod Linear
pub mod Sizes
pub mod Floors
pub mod Reciprocals
pub mod Squares
pub mod Sums
pub mod Lexicographic
pub mod Loops
pub mod Arrays
pub mod Tests
