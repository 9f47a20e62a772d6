-- Lemmas that only proofs use.
pub mod Lent
pub mod Changes
