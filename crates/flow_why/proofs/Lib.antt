pub mod found
pub mod solutions
pub mod trails
pub mod unfoldings
pub mod visits
