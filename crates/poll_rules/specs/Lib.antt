pub mod Acting
pub mod DemandSums
pub mod Demands
pub mod GatheredItems
pub mod MajorityLaw
pub mod Pairs
pub mod Quorum
pub mod Roles
