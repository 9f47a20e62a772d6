pub mod Disk
pub mod Rules
pub mod Broken
pub mod Exactly
pub mod Lemmas
