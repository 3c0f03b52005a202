-- Proved facts of records.
pub mod Vectors
pub mod Hours
