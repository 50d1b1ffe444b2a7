pub mod RefusalTexts
pub mod code
