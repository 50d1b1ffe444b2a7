pub mod LineLaws
pub mod ProgramExamples
pub mod ReaderExamples
pub mod WorkedTexts
pub mod WorkedViews
