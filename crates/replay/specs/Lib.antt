pub mod Marks
pub mod Rest
