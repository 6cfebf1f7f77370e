pub mod AssembledListLemmas
pub mod AssembledOrderLemmas
pub mod CountedRecordLemmas
pub mod FoundRecordLemmas
pub mod NamedMeetingLemmas
pub mod PublicRecordLemmas
pub mod ReadingLemmas
pub mod StoredOfficeLemmas
