pub mod MadeValues
pub mod Occurs
pub mod Steps
