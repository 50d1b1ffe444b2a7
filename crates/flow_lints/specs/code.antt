pub mod Leading
pub mod Lints
