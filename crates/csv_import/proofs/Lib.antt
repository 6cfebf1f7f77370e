pub mod FaultlessLemmas
pub mod FileDayLemmas
pub mod FileRecordLemmas
pub mod FileRowLemmas
pub mod GatheredLemmas
