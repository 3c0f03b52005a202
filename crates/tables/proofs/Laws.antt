-- Proved facts of the tables.
pub mod Filling
pub mod Theorems
