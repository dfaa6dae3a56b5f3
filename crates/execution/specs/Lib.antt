pub mod Stretch
pub mod Spot
pub mod Skip
