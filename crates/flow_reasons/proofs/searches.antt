pub mod Doubting
pub mod Reaching
