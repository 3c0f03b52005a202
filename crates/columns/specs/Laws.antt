-- Proved facts of columns.
pub mod Narrow
pub mod Columns
