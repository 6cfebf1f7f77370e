pub mod AdjournedSamples
pub mod AppointmentJson
pub mod Forms
pub mod Letters
pub mod NoticeJson
pub mod Replies
pub mod ReplyMembers
pub mod Writing
