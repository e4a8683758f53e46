pub mod CloseIndices
pub mod Questions
pub mod WindowLaws
