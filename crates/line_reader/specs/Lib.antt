pub mod FirstLine
pub mod LineState
pub mod Lines
pub mod NextLine
pub mod Window
