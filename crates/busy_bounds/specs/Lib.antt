pub mod BusyBounds
pub mod code
