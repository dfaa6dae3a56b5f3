pub mod Images
pub mod Left
pub mod Loops
