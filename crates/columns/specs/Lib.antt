-- Eight layers side by side, and the nearest point in narrow numbers. Definitions stand here; `Laws` holds what is proved of them.
pub mod Narrow
pub mod Columns
pub mod Laws
