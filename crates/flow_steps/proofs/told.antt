pub mod Facts
pub mod Kept
pub mod Pushes
pub mod Rounds
pub mod Same
pub mod Texts
