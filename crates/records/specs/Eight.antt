-- The forms over E8 that crates not yet over `Code` use: the old names, each the general one at `code8 q m`, by computation.
pub mod Codes
pub mod Vectors
pub mod Asked
