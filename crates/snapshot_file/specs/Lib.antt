-- Definitions, which clauses and ghost fields cite.
pub mod Gate
pub mod Beside
pub mod Shown
-- Lemmas on them, which the laws of readers cite.
pub mod GateLaws
pub mod BesideLaws
pub mod OneFound
