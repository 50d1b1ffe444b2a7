pub mod Built
pub mod Occurrences
pub mod Procedures
pub mod ReadFaults
pub mod SectionViews
