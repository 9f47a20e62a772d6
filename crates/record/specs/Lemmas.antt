-- Lemmas that only proofs use.
pub mod Granted
pub mod Update
pub mod Step
