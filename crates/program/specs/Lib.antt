pub mod Program
pub mod Lemmas
