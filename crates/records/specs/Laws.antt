-- Proved facts of records.
pub mod Frames
pub mod Parts
pub mod Codes
pub mod Least
pub mod Asked
pub mod Glance
