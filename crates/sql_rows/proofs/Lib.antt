pub mod ColumnLemmas
pub mod InstructionLemmas
pub mod RowColumnLemmas
pub mod RowMeaningLemmas
mod RowReadUpTo
