pub mod CountedRows
pub mod StoredNumbers
