pub mod Bits
pub mod Pending
