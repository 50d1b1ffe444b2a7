-- What is told, by the columns of the code.
pub mod Told
