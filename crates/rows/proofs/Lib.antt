pub mod Failing
pub mod Lemmas
