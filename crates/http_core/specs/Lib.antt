pub mod Heads
pub mod Fields
pub mod PageRequests
pub mod Views
pub mod Replies
pub mod Written
