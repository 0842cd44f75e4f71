pub mod Fronts
pub mod ReadsBack
pub mod Forms
pub mod Values
pub mod PlanTexts
pub mod Terms
pub mod Replies
pub mod Asked
