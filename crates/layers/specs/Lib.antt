-- Points as layers of digits, and back. Definitions stand here; `Laws` holds what is proved of them.
pub mod Rule
pub mod Layers
pub mod Digits
pub mod Sums
pub mod Sizes
pub mod E8
pub mod Code
pub mod Table
pub mod Laws
