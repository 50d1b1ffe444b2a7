pub mod Asked
pub mod Bounds
pub mod Clauses
pub mod Rules
pub mod code
