pub mod Depths
pub mod Moments
pub mod WritingLemmas
