pub mod Components
pub mod code
