pub mod FiledLemmas
pub mod Finding
