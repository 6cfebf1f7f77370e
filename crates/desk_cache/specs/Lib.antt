pub mod Cache
pub mod Caching
