pub mod BusyRemarks
pub mod Fields
pub mod Lined
pub mod Numbers
pub mod SameChanges
pub mod Sources
