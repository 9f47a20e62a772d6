pub mod Cost
pub mod Lemmas
