pub mod BlockCoverLemmas
pub mod CutLemmas
pub mod MarkLemmas
pub mod RangeLemmas
mod BlockPartLemmas
mod BoundLemmas
mod LinkLemmas
mod NodeLemmas
