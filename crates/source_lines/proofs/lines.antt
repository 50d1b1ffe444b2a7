pub mod Ends
pub mod Signs
pub mod Told
