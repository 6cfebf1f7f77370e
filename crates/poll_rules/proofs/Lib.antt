pub mod ActingLemmas
pub mod GatherLemmas
pub mod PollDemandLemmas
pub mod PollPairLemmas
pub mod RoleLemmas
