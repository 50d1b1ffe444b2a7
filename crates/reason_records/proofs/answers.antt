pub mod ManyWhys
pub mod Whys
