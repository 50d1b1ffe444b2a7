pub mod Inner
pub mod Numbered
pub mod Walks
pub mod Within
