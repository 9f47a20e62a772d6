-- Lemmas that only proofs use.
pub mod Granted
pub mod Step
pub mod Update
