pub mod AllTables
pub mod Excerpts
pub mod Laws
pub mod Sets
pub mod Tables
pub mod code
