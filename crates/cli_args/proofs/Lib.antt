pub mod AppLemmas
pub mod WordLemmas
pub mod WordNumberLemmas
