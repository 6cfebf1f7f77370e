pub mod Accepting
pub mod Answering
pub mod DrainLimit
pub mod Draining
pub mod Ending
pub mod Memory
