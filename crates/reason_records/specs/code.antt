-- What the code's own loops say.
pub mod Whys
