pub mod Data
pub mod Cells
pub mod Owns
pub mod Laws
