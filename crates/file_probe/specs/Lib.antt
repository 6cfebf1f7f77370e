pub mod DeskFileErrors
pub mod FileStates
