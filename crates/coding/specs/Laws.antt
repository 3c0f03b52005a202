-- Proved facts of what is asked for, and of counting.
pub mod Asked
pub mod Counting
