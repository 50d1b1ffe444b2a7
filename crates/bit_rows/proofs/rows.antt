pub mod Gains
pub mod Trim
pub mod WordLoops
pub mod WordRows
