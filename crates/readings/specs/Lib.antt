-- Readings. Definitions stand here, in document 01's order; `Laws` holds what is proved of them.
pub mod Fractions
pub mod Taking
pub mod Report
pub mod Words
