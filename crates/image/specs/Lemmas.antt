-- Lemmas that only proofs use.
pub mod Entries
pub mod Effect
pub mod Kinds
