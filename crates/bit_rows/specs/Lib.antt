pub mod Words
pub mod RowSet
pub mod RowTable
pub mod Slices
