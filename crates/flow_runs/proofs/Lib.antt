pub mod deliveries
pub mod matches
