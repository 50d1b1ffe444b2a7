pub mod bounds
pub mod paths
pub mod rules
pub mod telling
