pub mod Rows
pub mod Back
