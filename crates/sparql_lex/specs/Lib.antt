pub mod Steps
pub mod Scan
pub mod Names
pub mod Fronts
