pub mod Part
pub mod Results
pub mod StateReading
pub mod PagesOf
pub mod Followed
