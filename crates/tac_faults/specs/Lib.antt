pub mod Hints
pub mod Laws
pub mod Listed
