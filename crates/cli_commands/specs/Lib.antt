pub mod FileReading
pub mod LoadCommands
pub mod ReplayCommand
pub mod Serving
