pub mod Views
pub mod ViewTables
pub mod Dots
pub mod Json
pub mod code
