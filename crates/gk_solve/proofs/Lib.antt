pub mod beginnings
pub mod edges
pub mod slices
pub mod visits
pub mod words
