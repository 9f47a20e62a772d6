pub mod Listing
pub mod Lines
pub mod Puts
pub mod Lemmas
