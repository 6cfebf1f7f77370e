pub mod Feeds
pub mod Giving
pub mod LineLaws
pub mod LineParts
pub mod Taking
