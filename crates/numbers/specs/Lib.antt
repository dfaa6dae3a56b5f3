pub mod Stored
pub mod Columns
