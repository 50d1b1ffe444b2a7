pub mod Querying
pub mod Busy
pub mod Operands
pub mod Reported
pub mod Answered
pub mod Chosen
