pub mod Listed
pub mod Reports
pub mod Uses
pub mod code
