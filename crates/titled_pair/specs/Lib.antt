-- Definitions, which clauses and ghost fields cite.
pub mod Title
pub mod Titled
pub mod Pair
pub mod Calls
-- Lemmas on them, which ghost laws and laws cite.
pub mod TitleLaws
