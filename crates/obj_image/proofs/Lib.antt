pub mod Rows
pub mod SectionRows
pub mod CheckImage
pub mod Halves
pub mod Chains
