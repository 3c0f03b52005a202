-- Proved facts of blocks and steps. `Theorems` has what a block's bytes say, `Blocks` the listed blocks I and J of 01.
pub mod Fitting
pub mod Sizes
pub mod Theorems
