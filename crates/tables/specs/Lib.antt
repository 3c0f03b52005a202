-- Tables of scores. Definitions stand here; `Laws` holds what is proved of them.
pub mod Tables
pub mod Groups
pub mod Filling
pub mod Laws
