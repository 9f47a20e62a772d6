pub mod Akaii
pub mod Names
pub mod NameLaws
