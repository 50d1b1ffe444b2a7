pub mod drawn
pub mod named
