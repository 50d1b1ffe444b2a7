pub mod Columns
pub mod Framed
pub mod Frames
pub mod Joined
pub mod Orders
pub mod Sources
