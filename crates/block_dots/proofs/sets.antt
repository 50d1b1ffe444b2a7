pub mod Exposed
pub mod OwnBits
