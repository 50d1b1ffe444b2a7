pub mod HintLists
pub mod HintTexts
