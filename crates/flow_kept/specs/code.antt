pub mod Asked
pub mod Filled
pub mod Flags
