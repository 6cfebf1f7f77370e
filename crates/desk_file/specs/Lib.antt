pub mod DiskOffice
pub mod FileEnds
