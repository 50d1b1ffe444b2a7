pub mod Effects
pub mod Lists
pub mod Outside
pub mod Ranks
pub mod Regions
pub mod Touches
pub mod Ways
