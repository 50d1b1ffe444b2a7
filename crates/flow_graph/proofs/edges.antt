pub mod DirectedEdges
pub mod EdgeLemmas
pub mod LeadingLemmas
pub mod SameEdges
pub mod SiteLemmas
pub mod SourceLemmas
pub mod SuccessorLemmas
