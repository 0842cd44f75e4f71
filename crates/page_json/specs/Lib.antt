pub mod PlanTexts
pub mod Terms
pub mod Replies
pub mod Requests
pub mod Reading
pub mod Views
