-- Lemmas that only proofs use.
pub mod Parts
pub mod Signed
pub mod Back
pub mod Back900
