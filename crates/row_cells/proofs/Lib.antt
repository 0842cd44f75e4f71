pub mod Set
pub mod Rows
pub mod Binding
pub mod Asking
