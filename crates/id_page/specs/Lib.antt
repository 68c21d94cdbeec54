-- The files of definitions.
pub mod Layout
pub mod Leaf
pub mod LeafLaws
pub mod Fork
pub mod ForkLaws
