pub mod Names
pub mod Sides
