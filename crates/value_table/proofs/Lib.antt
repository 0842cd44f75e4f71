pub mod Classes
pub mod Equality
pub mod Less
pub mod Comparing
pub mod KeyOrder
