-- Proved facts of the tables.
pub mod Entries
pub mod Groups
pub mod Sizes
