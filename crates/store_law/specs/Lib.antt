-- The files of definitions, and of the laws that callers cite.
pub mod States
pub mod Stops
pub mod Lawful
pub mod Sessions
pub mod Laws
