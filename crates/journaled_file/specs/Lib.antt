-- Definitions, which clauses cite.
pub mod Judged
pub mod Gate
pub mod Ending
pub mod Opened
pub mod Paired
pub mod Viewed
-- Lemmas on them, which laws cite.
pub mod GateLaws
pub mod JudgedLaws
pub mod EndingLaws
pub mod FinishingLaws
pub mod ViewedLaws
