-- Proved facts of stores.
pub mod Best
pub mod Pieces
pub mod Asked
pub mod Search
pub mod Theorems
