-- The files of definitions.
pub mod Layout
pub mod Enlarged
pub mod Taken
pub mod PageLaws
pub mod Columns
pub mod Views
