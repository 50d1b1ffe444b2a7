pub mod KeptNumbers
pub mod KnownNames
pub mod NameFaults
