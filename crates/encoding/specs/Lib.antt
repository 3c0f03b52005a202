-- Encoding. Definitions stand here; `Laws` holds what is proved of them.
pub mod Encode
pub mod Laws
