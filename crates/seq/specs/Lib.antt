pub mod Edits
pub mod Ordered
pub mod Sorting
