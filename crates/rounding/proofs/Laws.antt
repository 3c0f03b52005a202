-- Proved facts of the rounding. `Choice` has that the code's point is the nearest.
pub mod Rounds
pub mod Mending
pub mod Places
pub mod Reciprocals
pub mod Lowered
pub mod Scans
pub mod Mended
pub mod Choice
pub mod Passes
