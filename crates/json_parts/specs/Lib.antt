pub mod JsonParts
pub mod code
