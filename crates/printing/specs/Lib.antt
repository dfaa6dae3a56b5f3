pub mod Rows
pub mod Told
pub mod Printed
pub mod Columns
