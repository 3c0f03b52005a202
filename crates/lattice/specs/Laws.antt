-- Proved facts of the lattices. `Theorems` has those that the floors above cite.
pub mod Least
pub mod Parity
pub mod Dn
pub mod Halves
pub mod Moves
pub mod Close
pub mod Member
pub mod Theorems
pub mod Asked
pub mod Equals
pub mod Tables
pub mod Rows
pub mod Basis
pub mod Written
