pub mod Orders
pub mod Opened
pub mod Fronts
pub mod Stretches
pub mod Places
pub mod Matches
