pub mod Forms
pub mod Keys
pub mod Hashes
pub mod Lemmas
