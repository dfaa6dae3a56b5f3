pub mod Points
pub mod OutcomeRows
pub mod SkipRows
pub mod SkipHalving
pub mod SymbolRows
pub mod Seen
pub mod KeyHalving
