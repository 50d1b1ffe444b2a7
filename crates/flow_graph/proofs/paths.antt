pub mod Complement
pub mod Finishing
pub mod PathLemmas
pub mod Reversal
pub mod RunLemmas
pub mod Splitting
