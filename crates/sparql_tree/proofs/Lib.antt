pub mod Assignments
pub mod Full
pub mod Visible
pub mod Data
pub mod ExprViews
pub mod GroupViews
pub mod NameSets
pub mod Counted
