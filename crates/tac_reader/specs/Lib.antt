pub mod Faults
pub mod Laws
pub mod Parses
pub mod Sections
pub mod code
