pub mod Changes
pub mod Lemmas
