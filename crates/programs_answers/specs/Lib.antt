pub mod Formats
pub mod Output
pub mod Pieces
