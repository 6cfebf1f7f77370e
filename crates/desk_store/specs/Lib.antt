pub mod Cached
pub mod Joins
pub mod StoreFailures
pub mod TableReads
