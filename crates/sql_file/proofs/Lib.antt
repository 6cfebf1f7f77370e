pub mod FileLaws
pub mod MakingLemmas
