pub mod Directed
pub mod Laws
pub mod PointBits
pub mod Witnesses
pub mod code
