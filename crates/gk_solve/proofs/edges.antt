pub mod GroupLemmas
pub mod WordEdges
