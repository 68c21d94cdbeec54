-- Definitions, which clauses cite.
pub mod Asking
pub mod Kinds
pub mod Targets
pub mod Words
