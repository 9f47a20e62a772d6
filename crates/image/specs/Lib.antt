pub mod Image
pub mod Outside
pub mod Lemmas
