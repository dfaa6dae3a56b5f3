-- Parts of lists.
pub mod Parts
