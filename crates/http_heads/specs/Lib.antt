pub mod BufferBounds
pub mod FieldValues
pub mod Fields
pub mod HeadUniqueness
pub mod Heads
pub mod Length
