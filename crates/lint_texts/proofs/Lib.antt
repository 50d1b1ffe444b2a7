pub mod Parts
mod Placed
mod Runs
mod Scanned
mod Texts
pub mod Unset
mod Linked
mod Turned
