pub mod Sparse
pub mod Table
