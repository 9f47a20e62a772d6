pub mod Locate
pub mod Enough
pub mod Lemmas
