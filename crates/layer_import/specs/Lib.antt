-- Definitions, which clauses cite.
pub mod Imports
