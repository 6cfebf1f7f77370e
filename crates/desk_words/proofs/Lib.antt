pub mod KeyLimits
pub mod OfficeFacts
pub mod RegisterLimits
pub mod WordDayLemmas
pub mod WordPairLemmas
pub mod WordRowLemmas
