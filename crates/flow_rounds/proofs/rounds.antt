pub mod Joins
pub mod Below
pub mod Above
pub mod Stable
pub mod Complements
pub mod Ends
