pub mod Parts
pub mod Places
pub mod Numbers
pub mod Named
pub mod Rules
