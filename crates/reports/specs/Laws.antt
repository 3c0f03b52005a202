-- Proved facts of reports.
pub mod Report
