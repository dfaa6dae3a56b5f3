pub mod Turns
pub mod Reached
pub mod Lists
pub mod Changes
