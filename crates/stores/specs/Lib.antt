-- Stores of code records. Definitions stand here; `Laws` holds what is proved of them.
pub mod Stores
pub mod Tabled
pub mod Laws
