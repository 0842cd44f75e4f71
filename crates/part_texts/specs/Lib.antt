pub mod ReadBack
pub mod Rules
