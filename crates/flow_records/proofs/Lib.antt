pub mod answers
pub mod buffers
