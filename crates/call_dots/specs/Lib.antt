pub mod CallDots
pub mod Calls
pub mod code
