-- Proved facts of the slices.
pub mod Parts
pub mod Powers
pub mod Merging
pub mod Codes
pub mod Lanes
pub mod Slices
pub mod Choices
pub mod Sums
pub mod Runs
