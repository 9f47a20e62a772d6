pub mod Accepted
pub mod Lemmas
