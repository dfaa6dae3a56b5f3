pub mod Some
pub mod Blocks
pub mod View
