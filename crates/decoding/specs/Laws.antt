-- Proved facts of decoding.
pub mod Decode
pub mod Recorded
pub mod Theorems
