pub mod StepTexts
pub mod code
