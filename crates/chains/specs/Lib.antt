pub mod Passes
pub mod Lemmas
