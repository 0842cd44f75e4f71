pub mod ServerParts
pub mod Accepting
pub mod PartTexts
