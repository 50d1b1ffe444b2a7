pub mod knowledge
