pub mod Covers
pub mod Cuts
pub mod LinkedPieces
pub mod Pieces
pub mod Tags
