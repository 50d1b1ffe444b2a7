pub mod buffers
pub mod sinks
