-- Proved facts of scores.
pub mod Totals
pub mod Inner
pub mod Layers
pub mod Sizes
pub mod Groups
pub mod Asked
pub mod Query
pub mod Pair
pub mod Theorems
