pub mod EffectLemmas
pub mod SolvedWords
