pub mod Notice
pub mod WorkingDays
pub mod DaySearch
