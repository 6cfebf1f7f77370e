pub mod FieldLemmas
pub mod HeadLemmas
pub mod HeadReadLemmas
