pub mod Formed
pub mod Lexed
pub mod Ranges
pub mod Roles
pub mod Views
