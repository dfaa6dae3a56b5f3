pub mod Steps
pub mod Options
pub mod Entries
pub mod Branching
pub mod Tabled
pub mod CodeWords
pub mod Outcomes
pub mod PlainWords
