pub mod Rows
pub mod Puts
pub mod Adds
pub mod Checks
