-- Proved facts of readings, for those who use them.
pub mod Nearest
pub mod Exact
pub mod Taking
pub mod Patterns
pub mod Examples
pub mod Report
pub mod Words
