pub mod Backward
pub mod Complete
pub mod Entries
pub mod Meet
pub mod Sound
