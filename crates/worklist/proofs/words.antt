pub mod MarkLemmas
pub mod Written
