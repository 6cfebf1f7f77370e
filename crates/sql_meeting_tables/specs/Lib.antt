pub mod Copying
pub mod FirstTables
pub mod TableIndexes
