-- The log's two lists as one of writes.
use Rattle.std.proofs.Common.{◌≡◌, ◌∙◌, ℕ, zero, suc, ◌+◌, ◌<◌, ◌≤◌, List, [], ◌∷◌, ◌++◌, length, drop}
use Rattle.std.proofs.Common.{get_or, set, refl, sym, ap, add-one, arith}
use Rattle.std.specs.List.{All}
use Rattle.block_device.specs.Device.{Blocks, block_at}
use Rattle.block_device.specs.Logged.{Write, restored, writes_in}

-- one write more
pub writes_in-push : (ns : List ℕ) (olds : Blocks) (n : ℕ) (old : List ℕ) → length ns ≡ length olds
    → writes_in (ns ++ n ∷ []) (olds ++ old ∷ []) ≡ writes_in ns olds ++ record { at = n; old = old } ∷ []
writes_in-push [] [] n old same = refl
writes_in-push [] (x ∷ olds) n old same = absurd (omega (arith, same))
writes_in-push (k ∷ ns) [] n old same = absurd (omega (arith, same))
writes_in-push (k ∷ ns) (x ∷ olds) n old same =
    ap (λ (ws : List Write). record { at = k; old = x } ∷ ws)
    (writes_in-push ns olds n old (omega (arith, same)))

-- the rest of the writes from one on
pub drop-writes_in : (k : ℕ) (ns : List ℕ) (olds : Blocks) → length ns ≡ length olds → k < length ns
    → drop k (writes_in ns olds) ≡ record { at = get_or ns k 0; old = block_at k olds } ∷ drop (suc k)
    (writes_in ns olds)
drop-writes_in k [] olds same lt = absurd (omega (arith, lt))
drop-writes_in k (n ∷ ns) [] same lt = absurd (omega (arith, same))
drop-writes_in zero (n ∷ ns) (old ∷ olds) same lt = refl
drop-writes_in (suc k) (n ∷ ns) (old ∷ olds) same lt =
    drop-writes_in k ns olds (omega (arith, same)) (omega (arith, lt))

-- each number is of a block that is there
pub there_at : (m k : ℕ) (ns : List ℕ) (olds : Blocks) → All (λ w. w.at < m) (writes_in ns olds)
    → length ns ≡ length olds → k < length ns → get_or ns k 0 < m
there_at m k [] olds all same lt = absurd (omega (arith, lt))
there_at m k (n ∷ ns) [] all same lt = absurd (omega (arith, same))
there_at m zero (n ∷ ns) (old ∷ olds) all same lt = all 0 (record { at = n; old = old }) (omega arith)
there_at m (suc k) (n ∷ ns) (old ∷ olds) all same lt =
    there_at m k ns olds (λ j d less. all (suc j) d (omega (arith, less))) (omega (arith, same))
    (omega (arith, lt))

-- where a number and its block were added, a write was
pub added : (ns ns' : List ℕ) (olds olds' : Blocks) (n : ℕ) (old : List ℕ) → length ns ≡ length olds
    → olds' ≡ olds ++ old ∷ [] → ns' ≡ ns ++ n ∷ []
    → writes_in ns' olds' ≡ writes_in ns olds ++ record { at = n; old = old } ∷ []
added ns ns' olds olds' n old same block number = ap (λ (l : List ℕ). writes_in l olds') number
    ∙ ap (writes_in (ns ++ n ∷ [])) block ∙ writes_in-push ns olds n old same

-- one write back
pub restored_next : (k : ℕ) (ns : List ℕ) (olds blocks now : Blocks) → length ns ≡ length olds
    → k < length ns → restored (drop k (writes_in ns olds)) now ≡ restored (writes_in ns olds) blocks
    → restored (drop (k + 1) (writes_in ns olds)) (set now (get_or ns k 0) (block_at k olds)) ≡ restored
    (writes_in ns olds) blocks
restored_next k ns olds blocks now same lt so_far =
    ap (λ (j : ℕ). restored (drop j (writes_in ns olds)) (set now (get_or ns k 0) (block_at k olds)))
    (add-one k)
    ∙ sym (ap (λ (ws : List Write). restored ws now) (drop-writes_in k ns olds same lt))
    ∙ so_far

-- after the last write there is none
pub drop-writes_in_all : (k : ℕ) (ns : List ℕ) (olds : Blocks) → length ns ≤ k
    → drop k (writes_in ns olds) ≡ []
drop-writes_in_all zero [] olds le = refl
drop-writes_in_all (suc k) [] olds le = refl
drop-writes_in_all k (n ∷ ns) [] le = drop_none k
  where
    drop_none : (k : ℕ) → drop k (writes_in (n ∷ ns) []) ≡ []
    drop_none zero = refl
    drop_none (suc k) = refl
drop-writes_in_all zero (n ∷ ns) (old ∷ olds) le = absurd (omega (arith, le))
drop-writes_in_all (suc k) (n ∷ ns) (old ∷ olds) le = drop-writes_in_all k ns olds (omega (arith, le))

-- all written back
pub restored_all : (k : ℕ) (ns : List ℕ) (olds blocks now : Blocks) → length ns ≤ k
    → restored (drop k (writes_in ns olds)) now ≡ restored (writes_in ns olds) blocks
    → now ≡ restored (writes_in ns olds) blocks
restored_all k ns olds blocks now le so_far =
    sym (ap (λ (ws : List Write). restored ws now) (drop-writes_in_all k ns olds le)) ∙ so_far
