pub mod Putting
pub mod Reading
