-- Lemmas that only proofs use.
pub mod Walking
pub mod Noting
pub mod Verdicts
pub mod Setting
pub mod Passes
