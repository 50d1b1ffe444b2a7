pub mod Complete
pub mod Frames
pub mod Keeping
pub mod Passing
pub mod Sound
