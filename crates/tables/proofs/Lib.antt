pub mod Places
pub mod Groups
pub mod Splices
pub mod Columns
pub mod Kept
pub mod Forward
