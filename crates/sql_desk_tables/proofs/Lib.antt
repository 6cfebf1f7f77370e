pub mod ClosedLemmas
pub mod TableColumnLemmas
pub mod TableDeskLemmas
pub mod TableKeyLemmas
pub mod TableMeetingLemmas
pub mod TableRegisterLemmas
pub mod TableSessionLemmas
pub mod TogetherLemmas
