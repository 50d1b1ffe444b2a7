pub mod Asked
pub mod FactWords
pub mod Flags
pub mod Told
