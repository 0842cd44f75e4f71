pub mod Parts
pub mod Places
pub mod Grows
pub mod Marked
pub mod Entered
pub mod Meant
pub mod Loops
pub mod Operators
