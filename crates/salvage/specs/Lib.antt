pub mod Salvage
pub mod Said
pub mod Theorems
pub mod Lemmas
