pub mod MaskBits
pub mod WordBits
pub mod WordLaws
