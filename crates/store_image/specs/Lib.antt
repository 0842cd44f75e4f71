pub mod Table
pub mod Numbering
pub mod Keys
pub mod Slots
pub mod Format
pub mod Header
pub mod Image
pub mod Holds
