-- The text that the showing program reads. Definitions stand here; `Laws` holds what is proved of them.
pub mod Text
pub mod Answers
pub mod Laws
