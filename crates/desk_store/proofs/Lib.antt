pub mod CallerLemmas
pub mod DeskReadLemmas
pub mod JoinLemmas
pub mod StepLemmas
