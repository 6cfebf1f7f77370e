pub mod Clock
pub mod GivenMoments
pub mod WallMoments
pub mod Zones
