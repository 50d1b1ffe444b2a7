pub mod Doubts
pub mod Holders
pub mod Lists
pub mod Meetings
pub mod Reached
pub mod code
