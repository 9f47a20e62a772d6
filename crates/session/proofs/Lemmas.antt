-- Lemmas that only proofs use.
pub mod Entries
