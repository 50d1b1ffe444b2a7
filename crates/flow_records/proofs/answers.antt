pub mod Graphs
pub mod Numbered
pub mod ReportParts
