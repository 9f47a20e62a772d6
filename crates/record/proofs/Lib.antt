pub mod Download
pub mod Lemmas
pub mod Others
pub mod Outside
pub mod Sixteen
pub mod Spelling
pub mod Types
