-- Definitions, which clauses and ghost fields cite.
pub mod Reader
pub mod Reading
-- Lemmas on them, which the laws of a reader and callers cite.
pub mod ReaderLaws
