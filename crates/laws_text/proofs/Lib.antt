mod ConnectionRunLemmas
pub mod HttpLawLemmas
mod PickLemmas
mod ReplayLemmas
mod TextLemmas
mod TextOfficeLemmas
mod TextResultLemmas
