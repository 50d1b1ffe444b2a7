pub mod Examples
pub mod LintJson
pub mod RefusalJson
