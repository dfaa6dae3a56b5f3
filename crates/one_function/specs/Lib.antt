pub mod Results
pub mod Rows
