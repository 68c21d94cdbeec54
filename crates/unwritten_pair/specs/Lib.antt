-- Definitions, which clauses and ghost fields cite.
pub mod Taken
pub mod Held
pub mod Pair
-- Lemmas on them, which ghost laws and laws cite.
pub mod TakenLaws
pub mod HeldLaws
