pub mod Ready
pub mod Settled
