pub mod words
