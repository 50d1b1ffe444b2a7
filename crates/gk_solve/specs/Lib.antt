pub mod Solved
pub mod Tables
