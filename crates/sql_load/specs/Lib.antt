pub mod LoadResults
pub mod MeetingRecords
pub mod OwnLists
pub mod TableLookUps
pub mod WholeReading
