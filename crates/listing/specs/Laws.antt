-- Proved facts of listings.
pub mod Decimal
pub mod Lines
pub mod Order
pub mod Lengths
pub mod Examples
pub mod Pages
