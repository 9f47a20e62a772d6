pub mod Steps
pub mod Lemmas
