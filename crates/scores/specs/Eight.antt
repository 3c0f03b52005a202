-- The forms over E8 that crates not yet over `Code`, and the proofs of E8's code, use.
pub mod Scores
pub mod Asked
pub mod Pair
pub mod Query
