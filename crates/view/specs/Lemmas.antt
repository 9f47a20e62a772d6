-- Lemmas that only proofs use.
pub mod Formed
pub mod Namesakes
pub mod Kept
pub mod Counting
pub mod Remove
pub mod Put
