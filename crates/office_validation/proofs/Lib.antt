pub mod RankLemmas
pub mod TieLemmas
pub mod ValidCastLemmas
pub mod ValidKeyLemmas
pub mod ValidMeetingLemmas
pub mod ValidNumberLemmas
pub mod ValidRegisterLemmas
