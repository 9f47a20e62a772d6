-- Lemmas that only proofs use.
pub mod Steps
pub mod Alike
pub mod States
