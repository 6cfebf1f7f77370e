pub mod MigratedRecords
pub mod OfficeRecords
pub mod Standing
