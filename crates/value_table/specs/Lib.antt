pub mod Values
pub mod Comparisons
pub mod Keys
