pub mod Opening
pub mod Commands
pub mod Runs
pub mod ServedStored
pub mod Stored
pub mod Reporting
