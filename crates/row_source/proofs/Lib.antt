pub mod MemberLemmas
pub mod SourceRowLemmas
pub mod SourceLookUpLemmas
