pub mod Pieces
pub mod Gains
