pub mod Checked
pub mod Decided
pub mod Decisions
pub mod KeyHolders
pub mod Step
