pub mod Keys
pub mod KeyLemmas
pub mod Stored
