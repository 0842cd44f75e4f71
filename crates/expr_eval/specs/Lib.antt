pub mod Founds
pub mod Parts
pub mod Answers
pub mod Tagged
