-- Lemmas that only proofs use.
pub mod Counting
pub mod Head
pub mod Put
pub mod Remove
