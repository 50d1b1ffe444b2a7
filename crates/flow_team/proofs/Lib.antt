pub mod complements
pub mod facts
pub mod posts
pub mod threads
