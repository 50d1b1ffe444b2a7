pub mod Membership
pub mod NumberListLemmas
pub mod Ranges
