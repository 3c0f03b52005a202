-- Slices of the query table. Definitions stand here; `Laws` holds what is proved of them.
pub mod Slices
pub mod Lanes
pub mod Sums
pub mod Laws
