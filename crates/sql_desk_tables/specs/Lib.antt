pub mod ColumnChecks
pub mod DeskTables
pub mod Together
pub mod Versions
