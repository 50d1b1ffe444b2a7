pub mod Holding
pub mod Meetings
pub mod Problems
