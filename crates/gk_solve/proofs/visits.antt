pub mod BroughtVisits
pub mod Callees
pub mod FlagVisits
pub mod Listed
pub mod SummaryVisits
pub mod Visits
