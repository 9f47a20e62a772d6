pub mod Lemmas
pub mod Tests
pub mod Ranges
