pub mod Lookups
pub mod Rows
pub mod Tables
