pub mod Entries
pub mod Cuts
pub mod Levels
pub mod Written
