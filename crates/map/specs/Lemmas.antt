-- Lemmas that only proofs use.
pub mod Chains
pub mod Walks
pub mod Free
pub mod Collect
pub mod Linking
pub mod Marks
