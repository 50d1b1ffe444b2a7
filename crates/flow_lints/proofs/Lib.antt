pub mod Doubts
pub mod Fronts
pub mod Known
pub mod Leading
pub mod Lists
pub mod Safe
pub mod Unread
