-- Scores by a lent table. Definitions stand here; `Laws` holds what is proved of them.
pub mod Scoring
pub mod Laws
