pub mod Leaders
pub mod Equations
pub mod Chains
pub mod Partition
