pub mod LineNumbers
pub mod Rising
pub mod TextLines
