pub mod Choices
pub mod Near
pub mod Places
