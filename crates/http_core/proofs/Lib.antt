pub mod Fronts
pub mod Numbers
pub mod Outcomes
pub mod Decimals
pub mod Reasons
pub mod WrittenReplies
