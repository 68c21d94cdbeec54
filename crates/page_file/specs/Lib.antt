-- Definitions, which the clauses cite.
pub mod Fault
pub mod Layout
pub mod Opening
pub mod Pages
pub mod Stops
pub mod File
-- Lemmas on them, up to those that laws and callers cite.
pub mod Reading
pub mod Written
pub mod Gated
pub mod Chains
pub mod Live
pub mod Given
pub mod Settled
pub mod Reused
pub mod Breaks
pub mod Prefix
pub mod Frames
pub mod Aside
pub mod Laws
pub mod Newest
