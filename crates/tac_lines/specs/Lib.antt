pub mod Forms
pub mod LineFaults
pub mod LineLaws
pub mod Text
pub mod Tokens
pub mod code
