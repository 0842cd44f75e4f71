pub mod Pieces
pub mod Edges
pub mod Three
pub mod Keys
pub mod Written
pub mod Bytes
