-- Scores. Definitions stand here; `Laws` holds what is proved of them.
pub mod Scores
pub mod Eight
pub mod Hours
pub mod Laws
