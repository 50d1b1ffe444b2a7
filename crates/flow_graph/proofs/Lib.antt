pub mod bits
pub mod edges
pub mod graphs
pub mod lists
pub mod paths
pub mod places
pub mod searches
