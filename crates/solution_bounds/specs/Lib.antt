pub mod Bounds
pub mod Examples
pub mod Laws
pub mod Pieces
pub mod Quotients
pub mod Selections
pub mod Turns
pub mod Witnesses
