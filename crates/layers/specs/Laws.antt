-- Proved facts of coding in layers. `Theorems`, `Widths` and `Inner` have the five that 01 asks for, over any lattice and rule; `E8` has them for E8.
pub mod Points
pub mod Weights
pub mod Inner
pub mod Rows
pub mod Entries
