-- Definitions, which clauses cite.
pub mod Device
pub mod Opening
