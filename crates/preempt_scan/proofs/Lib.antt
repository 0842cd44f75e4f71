pub mod Fronts
pub mod Scanned
pub mod Asked
