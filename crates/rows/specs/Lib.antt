pub mod Rows
pub mod Failing
pub mod Signed
pub mod Lemmas
