pub mod ClosedFiles
pub mod MadeFiles
pub mod OpenedFiles
pub mod SystemHeld
pub mod SystemLaws
