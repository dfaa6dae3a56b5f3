pub mod Bits
pub mod Insert
