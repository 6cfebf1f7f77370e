pub mod Counts
pub mod Filled
pub mod Memory
pub mod Written
