-- Lemmas that only proofs use.
pub mod Judged
pub mod Survivors
pub mod Erased
pub mod Run
