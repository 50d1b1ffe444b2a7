pub mod Blanking
pub mod Indexed
