pub mod ExampleLemmas
pub mod Executions
