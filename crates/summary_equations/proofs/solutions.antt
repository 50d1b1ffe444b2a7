pub mod Decided
pub mod ExampleLemmas
pub mod Least
pub mod SolutionTests
