-- A lawful insertion: placings, one after the other, until nothing waits (Beckmann, Kriegel, Schneider and
-- Seeger 1990; the order in which entries wait is our rule, docs/RULES.md).
use Rattle.std.specs.Prelude.{◌≡◌, ℕ, zero, suc, Bool, List, [], ◌∷◌}
use Rattle.tree_node.specs.Trees.{Branch, Tree}
use Rattle.reinsert.specs.Called.{none_called}
use Rattle.reinsert.specs.Placing.{State, Placing}

-- so many placings, one after the other
abbrev pub Placings : ℕ → ℕ → (ℕ → ℕ) → ℕ → State → State → Type 0
Placings dims most elsewhere zero old new = new ≡ old
Placings dims most elsewhere (suc count) old new =
    (mid : State) × Placing dims most elsewhere old mid × Placings dims most elsewhere count mid new

-- the entry alone waits for a node of the level, and no level is called
abbrev pub at_first : Tree → Branch → ℕ → State
at_first old branch level = record {
  tree = old;
  waiting = record { branch = branch; level = level } ∷ [];
  called = none_called;
}

-- An entry is inserted at a level: from it alone waiting to nothing waiting. Pages that occur elsewhere do
-- not come in.
pub record IsInsertion (dims most : ℕ) (elsewhere : ℕ → ℕ) (branch : Branch) (level : ℕ)
    (old new : Tree) : Type 0 where
  pub count : ℕ
  pub called : List Bool
  pub placed : Placings dims most elsewhere count (at_first old branch level)
      (record { tree = new; waiting = []; called = called })
