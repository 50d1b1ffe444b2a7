pub mod Sent
pub mod buffers
pub mod facts
