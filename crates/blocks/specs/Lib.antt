-- Blocks and steps. Definitions stand here; `Laws` holds what is proved of them.
pub mod Trials
pub mod Limits
pub mod Laws
