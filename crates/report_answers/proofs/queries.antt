pub mod Querying
pub mod Answered
pub mod Rising
pub mod Statements
