pub mod Boards
pub mod Excerpts
pub mod Posting
pub mod Complements
