pub mod Words
pub mod Steps
pub mod Turns
pub mod Clear
pub mod Scans
pub mod Spots
pub mod Skips
