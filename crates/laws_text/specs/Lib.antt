pub mod Connections
pub mod Exchanges
pub mod Offices
pub mod ReplayLaws
pub mod ReplySecrecy
pub mod TextSecrecy
