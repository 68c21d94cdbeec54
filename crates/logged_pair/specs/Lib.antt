-- Definitions, which clauses and ghost fields cite.
pub mod Commits
pub mod Index
pub mod Stages
pub mod Standing
pub mod Snapshots
pub mod Compaction
-- Lemmas on them, which laws and callers cite.
pub mod StagesFact
pub mod Shown
pub mod Law
pub mod CommitLaws
pub mod SnapshotLaws
pub mod OpeningLaws
pub mod WritesLaws
