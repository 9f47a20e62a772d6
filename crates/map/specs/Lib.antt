pub mod Map
pub mod Values
pub mod Lemmas
