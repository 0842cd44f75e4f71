pub mod Stores
pub mod Entries
pub mod Ranges
pub mod Asked
pub mod WantedFronts
pub mod Stretches
