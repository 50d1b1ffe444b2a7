pub mod Evaluated
pub mod Labels
pub mod NumberLists
pub mod PointTables
pub mod Searching
pub mod Sites
pub mod Walks
