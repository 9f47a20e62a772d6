pub mod Samples
pub mod Rules
pub mod Calls
pub mod Lemmas
