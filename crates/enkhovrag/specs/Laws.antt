-- Proved facts of what the library answers.
pub mod Blocks
