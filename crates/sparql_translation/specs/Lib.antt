pub mod Measures
pub mod Within
pub mod Splits
pub mod SplitLaws
pub mod Modifiers
