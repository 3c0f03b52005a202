-- A point coded and decoded by itself. Definitions stand here; `Laws` holds what is proved of them.
pub mod Answers
pub mod Counting
pub mod Laws
