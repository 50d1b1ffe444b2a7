pub mod listed
pub mod witnesses
pub mod words_put
