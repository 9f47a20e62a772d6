pub mod Layouts
pub mod Right
