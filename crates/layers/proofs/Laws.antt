-- Proved facts of coding in layers. `Theorems`, `Widths` and `Inner` have the five that 01 asks for, over any lattice and rule; `E8` has them for E8.
pub mod Remainders
pub mod Splitting
pub mod Theorems
pub mod Widths
pub mod Loops
pub mod Bases
pub mod E8
pub mod Table
