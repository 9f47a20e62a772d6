-- Lemmas that only proofs use.
pub mod Erased
pub mod Judged
pub mod Run
pub mod Survivors
