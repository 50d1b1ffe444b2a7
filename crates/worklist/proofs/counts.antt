pub mod GroupLemmas
pub mod MarkCounts
