mod Puts
mod Utf8
pub mod Bags
pub mod Merges
pub mod Joined
pub mod Entries
pub mod Distinct
pub mod Permuted
mod Builders
mod Halves
pub mod IdOrder
pub mod Orders
pub mod Ranges
pub mod Stretches
pub mod Ranked
pub mod Sets
