-- Lemmas that only proofs use.
pub mod Done
pub mod Slots
pub mod Listing
pub mod Finding
pub mod Paging
pub mod Putting
pub mod Answers
pub mod Salvaging
