-- The files of definitions.
pub mod Table
pub mod Tidy
pub mod Pages
pub mod Changes
pub mod Checked
pub mod Walks
