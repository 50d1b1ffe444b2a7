pub mod Cases
pub mod Entries
pub mod HeldValues
pub mod Numbers
