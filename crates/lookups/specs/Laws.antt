-- Proved facts of scores by table.
pub mod Sums
pub mod Scoring
