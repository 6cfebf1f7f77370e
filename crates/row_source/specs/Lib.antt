pub mod LookUps
pub mod TrueLookUps
