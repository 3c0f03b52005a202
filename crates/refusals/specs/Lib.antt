-- When the unit says no. Definitions stand here; `Laws` holds what is proved of them.
pub mod Limits
pub mod Verdicts
pub mod Answers
pub mod Settings
pub mod Steps
pub mod Laws
