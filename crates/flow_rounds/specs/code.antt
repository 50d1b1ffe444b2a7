-- How the code stands for an iteration.
pub mod Frames
pub mod Orders
