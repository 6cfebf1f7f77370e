pub mod CachedRecords
pub mod Deciding
pub mod LoadErrors
