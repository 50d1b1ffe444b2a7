pub mod BadNames
pub mod BuiltPrograms
pub mod Faults
pub mod Lists
pub mod SoundProcedures
