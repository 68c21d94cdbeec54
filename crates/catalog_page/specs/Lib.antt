-- The files of definitions.
pub mod Layout
pub mod PageLaws
