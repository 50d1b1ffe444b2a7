mod CutTexts
pub mod LineLists
mod Numbers
pub mod OrderLists
pub mod Rising
mod Words
