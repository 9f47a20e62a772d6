pub mod Lemmas
pub mod Enough
