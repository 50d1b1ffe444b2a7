pub mod OneTable
pub mod ByNumber
pub mod ExcerptTables
pub mod Words
