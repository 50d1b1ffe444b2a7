pub mod Examples
pub mod LintTexts
pub mod Starts
pub mod code
