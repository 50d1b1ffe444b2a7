mod Behind
pub mod Elements
