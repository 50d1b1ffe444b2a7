pub mod Changes
pub mod SetLines
pub mod Sets
pub mod code
