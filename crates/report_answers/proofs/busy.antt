pub mod Asked
pub mod Lists
pub mod Rest
pub mod Rounds
pub mod Within
