-- The files of definitions.
pub mod Nodes
pub mod Trees
pub mod Shape
pub mod Positions
pub mod Keys
pub mod Orders
pub mod Boxes
pub mod Rows
pub mod Searches
pub mod Joins
pub mod Laws
