pub mod Mask
pub mod Scan
pub mod Distance
pub mod Table
pub mod Named
