pub mod PrintedResults
pub mod ResultPrinting
pub mod States
