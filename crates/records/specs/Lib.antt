-- Records. Definitions stand here; `Laws` holds what is proved of them.
pub mod Frames
pub mod Vectors
pub mod Codes
pub mod Laws
pub mod Eight
