pub mod ShapeLemmas
pub mod Sites
