-- How the crate's own tables stand for the families of the equations.
pub mod Brought
pub mod Flags
pub mod Groups
pub mod SliceTables
pub mod Solutions
pub mod Visits
pub mod Widths
pub mod Words
