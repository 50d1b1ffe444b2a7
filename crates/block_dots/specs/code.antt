pub mod BlockBits
pub mod Blocks
