-- The files of definitions.
pub mod Tree
pub mod Tidy
pub mod Works
pub mod Changes
pub mod Rows
pub mod Runs
pub mod Steps
pub mod Freeing
pub mod Halving
pub mod Writes
pub mod Cutting
pub mod Joining
pub mod Laws
pub mod Checked
