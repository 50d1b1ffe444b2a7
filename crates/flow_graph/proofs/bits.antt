pub mod Added
pub mod DefinitionRanges
pub mod Dummies
pub mod ExpressionEquality
pub mod Noted
pub mod WordTests
