-- What the C library answers, and the listed blocks. Definitions stand here; `Laws` holds what is proved of them.
pub mod Answers
pub mod Blocks
pub mod Laws
