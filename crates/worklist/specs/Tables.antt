-- How the crate's own tables stand for sets, orders and groups.
pub mod Filled
pub mod MarkWords
pub mod RankLists
