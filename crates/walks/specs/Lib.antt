pub mod Around
pub mod State
pub mod Branched
pub mod Code
pub mod After
pub mod Noted
