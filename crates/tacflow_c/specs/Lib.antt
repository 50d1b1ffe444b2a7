pub mod Builds
pub mod Handles
pub mod Held
pub mod Messages
pub mod Statuses
