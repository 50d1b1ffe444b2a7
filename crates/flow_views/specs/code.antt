pub mod Names
pub mod ViewProgram
