pub mod App
pub mod Plans
pub mod Words
