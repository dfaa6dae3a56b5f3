pub mod Sweep
pub mod Plan
pub mod Records
