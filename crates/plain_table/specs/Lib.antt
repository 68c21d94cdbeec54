-- The files of definitions, and of the laws that callers cite.
pub mod Boxes
pub mod Refusals
pub mod Table
pub mod Codes
pub mod Commands
pub mod Queries
pub mod Nearest
pub mod Loads
pub mod Listings
pub mod Entries
pub mod Step
pub mod Answers
pub mod Laws
