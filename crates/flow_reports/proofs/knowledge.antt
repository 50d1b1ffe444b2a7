pub mod Doubts
pub mod KnownReports
pub mod Listed
pub mod RemarkLines
pub mod SafeReports
