-- Definitions, which clauses and ghost fields cite.
pub mod Pairs
pub mod Fuse
pub mod Both
pub mod Memory
-- Lemmas on them, which laws and callers cite.
pub mod BothLaws
pub mod Runs
