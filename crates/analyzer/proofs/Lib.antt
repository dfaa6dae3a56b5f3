pub mod Rows
pub mod Flat
pub mod Adding
pub mod Changing
pub mod Lookups
pub mod Spans
pub mod Storing
