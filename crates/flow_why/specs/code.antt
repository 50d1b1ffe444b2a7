-- How the code's own tables stand for what a search has found.
pub mod Closed
pub mod Found
pub mod Frames
pub mod Marked
pub mod Moves
pub mod Scopes
pub mod Trails
pub mod Visits
pub mod Ways
