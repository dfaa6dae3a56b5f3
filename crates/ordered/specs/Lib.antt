pub mod Columns
pub mod Part
