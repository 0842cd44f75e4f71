pub mod Constraints
pub mod ExprText
pub mod OfTrees
pub mod PartText
pub mod Pieces
pub mod QueryExpressions
pub mod Spelled
pub mod SpelledSymbols
