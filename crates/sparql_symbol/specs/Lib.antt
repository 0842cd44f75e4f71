pub mod Undoing
pub mod Reading
pub mod Names
pub mod Firsts
pub mod Excess
