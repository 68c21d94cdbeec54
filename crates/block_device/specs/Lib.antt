-- Definitions, which clauses and ghost fields cite.
pub mod Blank
pub mod Device
pub mod Fuse
pub mod History
pub mod Kept
pub mod Logged
pub mod Memory
pub mod Noted
pub mod Stop
-- Lemmas on them, which laws and callers cite.
pub mod KeptFact
pub mod Laws
pub mod Moments
pub mod Outcomes
pub mod Written
