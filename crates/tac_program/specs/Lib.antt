pub mod Limits
pub mod Names
pub mod Programs
pub mod Sound
pub mod Spelling
pub mod code
