pub mod DecidedCountLemmas
pub mod EarlyLemmas
pub mod FirstRead
pub mod MeetingRules
pub mod OnResolution
pub mod ReadLaws
