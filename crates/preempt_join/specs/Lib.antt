pub mod Cursors
pub mod Steps
pub mod States
pub mod Nodes
