-- Lemmas that only proofs use.
pub mod Truth
pub mod Scan
pub mod Refusals
pub mod Member
pub mod Lists
pub mod Reader
pub mod Splice
pub mod Padded
pub mod Clip
pub mod Search
