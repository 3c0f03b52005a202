-- Proved facts of the points of blocks.
pub mod Points
pub mod Lanes
pub mod LanePoints
pub mod Folded
