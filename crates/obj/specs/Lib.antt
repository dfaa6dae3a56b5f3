pub use Rattle.obj_image.specs.Lent
pub use Rattle.obj_rows.specs.Skips
pub use Rattle.obj_rows.specs.Symbols
pub mod Sections
pub mod Outcomes
