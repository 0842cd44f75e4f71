pub mod Spelled
pub mod Reading
pub mod Refusals
pub mod Laws
