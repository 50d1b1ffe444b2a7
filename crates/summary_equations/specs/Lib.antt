pub mod Equations
pub mod Laws
