pub mod ExampleLemmas
pub mod GraphLaws
pub mod LimitLemmas
pub mod MayForms
