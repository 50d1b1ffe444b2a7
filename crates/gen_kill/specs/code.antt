pub mod BitTables
pub mod Columns
pub mod Effects
pub mod KeptEffects
pub mod Problems
