-- Pages that were visited, each once, and a mark for each of them (our rule, docs/FORMAT.md, "Trees of
-- pages").
use Rattle.std.specs.Prelude.{◌≡◌, ◌↔◌, ℕ, ◌+◌, ◌<◌, ◌≤◌, List, Bool, true, false, length, slice_index_or}
use Rattle.std.specs.Prelude.{if◌then◌else◌, ◌==◌}
use Rattle.tree_node.specs.Positions.{total}

-- how often a list has a page
abbrev pub times_in : ℕ → List ℕ → ℕ
times_in n list = total (λ page. if page == n then 1 else 0) list

-- how many numbers are not marked
abbrev pub unmarked : List Bool → ℕ
unmarked marks = total (λ mark. if mark then 0 else 1) marks

-- the pages of the list are those that are marked, each once
pub record AreMarked (list : List ℕ) (marks : List Bool) : Type 0 where
  pub once : (n : ℕ) → times_in n list ≤ 1
  pub marked : (n : ℕ) → (slice_index_or marks n false ≡ true) ↔ (0 < times_in n list)
  pub many : length list + unmarked marks ≡ length marks
