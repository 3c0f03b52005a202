-- The points of a record's blocks, eight side by side. Definitions stand here; `Laws` holds what is proved of them.
pub mod Lanes
pub mod Laws
