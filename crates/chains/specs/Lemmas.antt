-- Lemmas that only proofs use.
pub mod Tally
pub mod Passes
