pub mod Around
pub mod Why
pub mod Whys
pub mod code
