-- The files of definitions.
pub mod Sorting
pub mod Hints
pub mod Tiling
pub mod TilingLaws
pub mod Packed
pub mod PackedLaws
pub mod Loads
pub mod Levels
