-- Proved facts of the rounding. `Choice` has that the code's point is the nearest.
pub mod Keys
