pub mod Columns
pub mod Entries
pub mod Lengths
pub mod Maps
pub mod Printing
pub mod Lines
pub mod Digits
