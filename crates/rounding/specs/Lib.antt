-- How the code finds the nearest point. No promise to a user cites these; `Laws` shows that they are the nearest point of lattice.
pub mod Rounding
pub mod Pass
pub mod Laws
