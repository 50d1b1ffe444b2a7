pub mod Faults
pub mod FaultLines
pub mod Runs
pub mod Words
pub mod code
