-- Proved facts of encoding.
pub mod Encoded
pub mod Theorems
