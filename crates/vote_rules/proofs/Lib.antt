pub mod AlikeLemmas
pub mod CommonWays
pub mod LastInstructed
pub mod LeftLemmas
pub mod OwnCastLemmas
pub mod PartingLemmas
pub mod SilentLemmas
pub mod SortedBlocks
pub mod TallyLemmas
pub mod VoteCastLemmas
pub mod VoteCountLemmas
pub mod VoteCoverLemmas
pub mod VoteLemmas
pub mod VoteListLemmas
pub mod VoteRowLemmas
mod VoteOrderLemmas
