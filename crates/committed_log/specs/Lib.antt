-- Definitions, which clauses and ghost fields cite.
pub mod Log
pub mod Found
pub mod Buckets
pub mod Room
pub mod Stops
pub mod Committed
pub mod Region
pub mod Home
pub mod Opening
pub mod Appending
-- Lemmas on them, which laws and callers cite.
pub mod BucketsFact
pub mod StopsFact
pub mod Replay
pub mod Torn
pub mod Overlay
pub mod FlagLaws
pub mod Regions
pub mod Whole
