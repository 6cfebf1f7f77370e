pub mod ClosedDays
pub mod Counting
pub mod WorkLemmas
