pub mod Arrays
pub mod Shift
pub mod Columns
pub mod Sets
