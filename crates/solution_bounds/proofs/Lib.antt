pub mod bounds
pub mod quotients
pub mod selections
pub mod witnesses
