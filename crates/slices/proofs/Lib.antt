pub mod Rows
pub mod Views
pub mod Marks
pub mod Apart
