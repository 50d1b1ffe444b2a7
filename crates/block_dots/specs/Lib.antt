pub mod Blocks
pub mod BlockSets
pub mod BlockDots
pub mod Laws
pub mod code
