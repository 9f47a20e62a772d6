-- Lemmas that only proofs use.
pub mod Collect
pub mod Linking
pub mod Walks
