pub mod Analyzed
pub mod Left
