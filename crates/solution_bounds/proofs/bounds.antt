pub mod Bounds
pub mod NestedCalls
