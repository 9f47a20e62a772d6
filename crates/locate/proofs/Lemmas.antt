-- Lemmas that only proofs use.
pub mod Locate
