pub mod CallLemmas
pub mod ListLemmas
pub mod SameLinks
pub mod Written
