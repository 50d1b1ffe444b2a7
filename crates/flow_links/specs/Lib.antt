pub mod LinkLists
pub mod Shapes
pub mod Tables
