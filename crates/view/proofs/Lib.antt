pub mod Exactly
pub mod Lemmas
