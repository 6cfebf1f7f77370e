pub mod CalendarParts
pub mod Dates
pub mod Digits
pub mod Named
pub mod Unique
