pub mod DecidingLemmas
pub mod KeepingLemmas
pub mod ReturnedLemmas
