pub mod Laws
pub mod Rounds
pub mod Steps
pub mod code
