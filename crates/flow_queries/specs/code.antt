pub mod Boards
pub mod Cuts
pub mod Directions
pub mod Packing
pub mod Solving
pub mod Splits
