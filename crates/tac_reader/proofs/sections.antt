pub mod CoreFaults
pub mod Cores
pub mod GoodSections
pub mod SectionSteps
