pub mod Stored
pub mod Settles
pub mod Stays
pub mod Each
pub mod Given
pub mod Steps
pub mod Looping
pub mod Whole
