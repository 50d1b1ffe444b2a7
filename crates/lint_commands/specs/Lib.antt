pub mod Runs
pub mod Kinds
pub mod Commands
pub mod Failures
pub mod Missing
pub mod Styles
pub mod code
