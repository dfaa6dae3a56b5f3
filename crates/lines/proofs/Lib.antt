-- A line that comes as often as its count says.
pub mod Repeats
