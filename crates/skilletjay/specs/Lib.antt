pub mod Results
pub mod Told
pub mod Counted
pub mod Sequence
