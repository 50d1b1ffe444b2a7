pub mod Cuts
pub mod MergeLaws
pub mod PartLaws
pub mod Parts
pub mod code
