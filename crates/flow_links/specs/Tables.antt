-- How the crate's own tables stand for a program's edges.
pub mod EdgeLists
pub mod LinkTables
