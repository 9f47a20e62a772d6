pub mod Script
pub mod Replied
pub mod Turns
pub mod Replies
pub mod Lemmas
