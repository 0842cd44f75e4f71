pub mod Steps
pub mod Elements
pub mod Conditions
pub mod Joins
pub mod Fronts
pub mod Splits
