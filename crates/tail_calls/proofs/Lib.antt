pub mod Among
pub mod Referred
pub mod Others
pub mod Tests
