pub mod Beginning
pub mod Blank
