pub mod Solutions
pub mod code
