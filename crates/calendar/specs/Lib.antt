pub mod Calendar
pub mod DateTexts
