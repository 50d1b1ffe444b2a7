pub mod Closing
pub mod Growing
pub mod Links
pub mod Listed
pub mod Reasons
pub mod Results
pub mod Statements
pub mod Visiting
