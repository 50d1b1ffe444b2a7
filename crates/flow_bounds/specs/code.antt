pub mod Bounded
pub mod Exact
pub mod Frames
pub mod Groups
pub mod Rounds
pub mod Shared
