pub mod MeetingTableDemandLemmas
pub mod PollLemmas
pub mod PresenceLemmas
pub mod TypedLemmas
