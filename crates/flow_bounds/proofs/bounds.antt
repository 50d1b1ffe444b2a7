pub mod Above
pub mod Below
pub mod Groups
pub mod Settled
pub mod Transfers
