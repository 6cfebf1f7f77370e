pub mod BookLemmas
pub mod Gathering
pub mod MomentFirst
pub mod Progress
pub mod ReplayRunLaws
pub mod ReplayTurnLemmas
