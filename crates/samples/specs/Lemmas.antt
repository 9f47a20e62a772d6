-- Lemmas that only proofs use.
pub mod Data
pub mod Steps
pub mod Back
