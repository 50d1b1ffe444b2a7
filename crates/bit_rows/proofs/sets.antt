pub mod RowSets
pub mod SetLaws
pub mod Tables
