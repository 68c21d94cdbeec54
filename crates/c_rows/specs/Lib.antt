-- The files of definitions.
pub mod Boxes
pub mod Numbers
pub mod Rows
pub mod Layers
pub mod Nodes
pub mod Parts
