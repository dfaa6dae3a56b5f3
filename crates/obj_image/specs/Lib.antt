pub mod Lent
pub mod Sections
