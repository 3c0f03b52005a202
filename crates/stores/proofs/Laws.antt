-- Proved facts of stores.
pub mod Tabled
pub mod TableTheorems
