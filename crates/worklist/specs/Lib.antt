pub mod Groups
pub mod Worklist
pub mod Orders
pub mod Tables
