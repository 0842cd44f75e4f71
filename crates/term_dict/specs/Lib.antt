pub mod Records
pub mod Layout
pub mod Ranks
pub mod Built
pub mod Fronts
