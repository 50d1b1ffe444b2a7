pub mod Lined
pub mod Outlines
pub mod Tells
