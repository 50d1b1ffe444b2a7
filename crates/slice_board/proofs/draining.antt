pub mod Drained
