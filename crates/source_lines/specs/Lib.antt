pub mod SourceLaws
pub mod SourceLines
