-- How the crate's own lists stand for sets of expressions.
pub mod Kept
pub mod Sets
