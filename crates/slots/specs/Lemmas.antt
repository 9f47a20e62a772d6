-- Lemmas that only proofs use.
pub mod Once
pub mod Keys
pub mod Hashes
