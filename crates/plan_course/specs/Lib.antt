pub mod Courses
pub mod Meanings
pub mod Parts
