-- Lemmas that only proofs use.
pub mod Numbers
pub mod Blocks
