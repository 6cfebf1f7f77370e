pub mod CountedLemmas
pub mod FindLemmas
pub mod Numbering
pub mod OwnLemmas
pub mod ViewPreservedLemmas
