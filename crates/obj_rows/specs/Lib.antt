pub mod Outcomes
pub mod Skips
pub mod Symbols
