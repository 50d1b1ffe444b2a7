pub mod Devices
pub mod Transfers
pub mod Pieces
pub mod Pulls
pub mod Strings
pub mod code
