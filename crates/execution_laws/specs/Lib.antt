pub mod Examples
pub mod ExecutionLaws
pub mod Executions
