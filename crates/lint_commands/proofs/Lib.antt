pub mod Deliveries
pub mod matches
