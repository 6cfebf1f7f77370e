pub mod Methods
pub mod ReplyTexts
pub mod RouteSpelling
pub mod Statuses
pub mod Targets
