pub mod Hashes
pub mod Rows
