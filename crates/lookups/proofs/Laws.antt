-- Proved facts of scores by table.
pub mod Rows
pub mod Same
pub mod Theorems
