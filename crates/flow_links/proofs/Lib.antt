pub mod groups
pub mod shapes
