pub mod PutFrame
pub mod View
pub mod Frames
pub mod Digits
pub mod Kinds
pub mod Rows
pub mod LastRows
pub mod Texts
