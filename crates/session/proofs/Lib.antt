pub mod Lemmas
pub mod Replies
pub mod Turns
