-- Definitions, which clauses and ghost fields cite.
pub mod Events
pub mod Journaled
-- Lemmas on them, which laws and callers cite.
pub mod EventsFact
pub mod EventLaws
pub mod DeviceLaws
