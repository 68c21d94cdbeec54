-- The files of lemmas.
pub mod Rows
pub mod Lists
pub mod ObjectPlaces
pub mod LeafReading
pub mod LeafEdits
pub mod LeafPages
pub mod LinkPlaces
pub mod ForkReading
pub mod ForkEdits
pub mod ForkPages
pub mod Ways
pub mod Order
