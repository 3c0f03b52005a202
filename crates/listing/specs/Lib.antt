-- The showing program's listing. Definitions stand here; `Laws` holds what is proved of them.
pub mod Listing
pub mod Pages
pub mod Laws
