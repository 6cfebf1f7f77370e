pub mod CallRulings
pub mod DeskRulings
pub mod Early
pub mod ListsRead
pub mod OfficeRulings
pub mod PollRulings
pub mod PresenceRulings
pub mod RequestLimits
