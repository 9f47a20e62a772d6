-- Lemmas that only proofs use.
pub mod Back900
