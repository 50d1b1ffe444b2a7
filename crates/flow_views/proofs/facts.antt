pub mod Known
pub mod Statements
pub mod Tables
pub mod Behind
pub mod Sides
pub mod Ahead
