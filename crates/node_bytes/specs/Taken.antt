-- A node without one of its entries, and the bytes of a page from which it was taken (docs/FORMAT.md, "Node
-- pages").
use Rattle.std.specs.Prelude.{◌≡◌, ℕ, ◌+◌, ◌*◌, ◌<◌, ◌≤◌, ◌⊎◌, Bool, List, ◌++◌}
use Rattle.std.specs.Prelude.{◌-◌, take, drop}
use Rattle.block_bytes.specs.Numbers.{number_at}
use Rattle.tree_node.specs.Nodes.{NodeContent}
use Rattle.node_bytes.specs.Layout.{IsNamed, IsOfEntry, item_at}

-- the node without the entry in a place
abbrev pub without_entry : NodeContent → ℕ → NodeContent
without_entry c at = record { level = c.level; entries = take at c.entries ++ drop (at + 1) c.entries }

-- so many bytes were taken out of a row of bytes at its begin: those behind them moved up, and the last ones
-- became zeros; outside the row nothing changed
pub record IsClosed (from to width : ℕ) (old new : List ℕ) : Type 0 where
  pub moved : (n at : ℕ) → from ≤ at → at + n + width ≤ to → number_at n at new ≡ number_at n (at + width) old
  pub cleared : (k : ℕ) → to ≤ k + width → k < to → number_at 1 k new ≡ 0
  pub others : (n at : ℕ) → (at + n ≤ from) ⊎ (to ≤ at) → number_at n at new ≡ number_at n at old

-- the numbers in a place were taken out of the first columns of lows and highs, of which each takes 400 bytes
pub record AreClosed (columns place count : ℕ) (old new : List ℕ) : Type 0 where
  pub moved : (column k : ℕ) → column < columns → place ≤ k → k + 1 < count
      → number_at 4 (16 + 400 * column + 4 * k) new ≡ number_at 4 (16 + 400 * column + 4 * (k + 1)) old
  pub cleared : (column k : ℕ) → column < columns → 16 + 400 * column + 4 * count ≤ k + 4
      → k < 16 + 400 * column + 4 * count → number_at 1 k new ≡ 0
  pub others : (n at : ℕ)
      → ((column : ℕ) → column < columns
      → (at + n ≤ 16 + 400 * column + 4 * place) ⊎ (16 + 400 * column + 4 * count ≤ at))
      → number_at n at new ≡ number_at n at old

-- the entry in a place was taken out of the first ones: those behind it moved up by one place, and the bytes of
-- the last place became zeros; the head stayed, and each byte of no entry
pub record IsTakenOut (dims : ℕ) (tagged : Bool) (place count : ℕ) (old new : List ℕ) : Type 0 where
  pub before : (k : ℕ) → k < place → item_at dims new k ≡ item_at dims old k
  pub moved : (k : ℕ) → place ≤ k → k + 1 < count → item_at dims new k ≡ item_at dims old (k + 1)
  pub cleared : (k : ℕ) → IsOfEntry dims tagged (count - 1) k → number_at 1 k new ≡ 0
  pub head : (n at : ℕ) → at + n ≤ 16 → number_at n at new ≡ number_at n at old
  pub rest : (k : ℕ) → (IsNamed dims tagged count k → ⊥) → number_at 1 k new ≡ number_at 1 k old
