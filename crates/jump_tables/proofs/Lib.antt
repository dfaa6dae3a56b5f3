pub mod Readings
pub mod Chunks
pub mod Tables
pub mod Loops
