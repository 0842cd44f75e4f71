pub mod MadeTerms
pub mod Operators
pub mod Functions
pub mod Evaluation
pub mod Laws
pub mod Solutions
