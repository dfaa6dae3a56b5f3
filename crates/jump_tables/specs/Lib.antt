pub mod Readings
pub mod Entries
