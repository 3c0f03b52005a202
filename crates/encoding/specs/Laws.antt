-- Proved facts of encoding.
pub mod Encode
pub mod Fitting
