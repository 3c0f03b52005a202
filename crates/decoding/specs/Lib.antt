-- Decoding. Definitions stand here; `Laws` holds what is proved of them.
pub mod Decode
pub mod Laws
