pub mod Info
pub mod Sections
pub mod Ascending
