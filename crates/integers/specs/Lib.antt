-- Signed numbers and vectors of them. Definitions stand here; `Laws` holds what is proved of them.
pub mod Floor
pub mod Vectors
pub mod Laws
