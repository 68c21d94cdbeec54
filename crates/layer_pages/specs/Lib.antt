-- The files of definitions.
pub mod Layers
pub mod Changes
pub mod Checked
pub mod Questions
pub mod Laws
