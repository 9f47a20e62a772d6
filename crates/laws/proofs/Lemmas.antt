-- Lemmas that only proofs use.
pub mod Reader
pub mod Scan
pub mod Search
pub mod Splice
