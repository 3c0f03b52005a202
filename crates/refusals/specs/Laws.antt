-- Proved facts of verdicts, settings and step lists.
pub mod Verdicts
pub mod Allowed
pub mod Edges
