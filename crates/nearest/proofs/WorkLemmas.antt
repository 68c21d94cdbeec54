-- The work that candidates are.
use Rattle.std.proofs.Common.{◌≡◌, ◌∙◌, ℕ, zero, suc, ◌+◌, ◌-◌, ◌*◌, ◌^◌, ◌<◌, ◌≤◌, List, [], ◌∷◌, ◌++◌}
use Rattle.std.proofs.Common.{length, map, All, IsPermutation, ap, arith}
use Rattle.std.proofs.lemmas.List.{length-map}
use Rattle.std.proofs.lemmas.List.Elements.{All-nil, All-cons}
use Rattle.std.proofs.lemmas.List.Sums.{sum_by-append, sum_by-le}
use Rattle.std.proofs.lemmas.List.Sorted.{sum_by-IsPermutation, sum_by_popped}
use Rattle.std.proofs.lemmas.Nat.{mul-le}
use Rattle.std.proofs.Math.Nat.{le_refl, pow-suc}
use Rattle.box_math.specs.Bounds.{Bounds}
use Rattle.tree_node.specs.Nodes.{Item}
use Rattle.nearest.specs.declared.candidate.Candidate.{Candidate}
use Rattle.nearest.specs.Candidates.{candidate_at, work_in, work_of}

one_power : (k : ℕ) → 0 < 101 ^ k
one_power zero = omega arith
one_power (suc k) = let more_power = pow-suc 101 k in omega (arith, more_power, one_power k)

next_power : (level : ℕ) → 0 < level → 101 ^ level ≡ 101 ^ (level - 1) * 101
next_power level above =
    let up : level ≡ suc (level - 1) = omega (arith, above) in
    ap (λ (n : ℕ). 101 ^ n) up ∙ pow-suc 101 (level - 1)

entries_work : (far : Bounds → ℕ) (level : ℕ) (items : List Item)
    → All (λ c. work_of c ≤ 101 ^ (level - 1)) (map (candidate_at far level) items)
entries_work far level [] = All-nil (λ c. work_of c ≤ 101 ^ (level - 1))
entries_work far level (item ∷ items) =
    All-cons (λ c. work_of c ≤ 101 ^ (level - 1)) (candidate_at far level item)
    (map (candidate_at far level) items) (le_refl (101 ^ (level - 1))) (entries_work far level items)

summed : (now old added bound power next : ℕ) → now ≡ old + added → added ≤ bound → bound ≤ 100 * power
    → next ≡ power * 101 → 0 < power → now < old + next
summed now old added bound power next a b c d e = omega (arith, a, b, c, d, e)

-- at most 100 children are less work than their node
pub less_work : (far : Bounds → ℕ) (level : ℕ) (items : List Item) (old now : List Candidate) → 0 < level
    → now ≡ old ++ map (candidate_at far level) items → length items ≤ 100
    → work_in now < work_in old + 101 ^ level
less_work far level items old now above is few =
    let xs = map (candidate_at far level) items in
    let same : work_in now ≡ work_in old + work_in xs = ap work_in is ∙ sum_by-append work_of old xs in
    let bound : work_in xs ≤ length xs * 101 ^ (level - 1) =
    sum_by-le work_of (101 ^ (level - 1)) xs (entries_work far level items) in
    let many : length xs ≡ length items = length-map items (candidate_at far level) in
    let product : length xs * 101 ^ (level - 1) ≤ 100 * 101 ^ (level - 1) =
    mul-le (length xs) (101 ^ (level - 1)) 100 (101 ^ (level - 1)) (omega (arith, many, few))
    (le_refl (101 ^ (level - 1))) in
    summed (work_in now) (work_in old) (work_in xs) (length xs * 101 ^ (level - 1)) (101 ^ (level - 1))
    (101 ^ level) same bound product (next_power level above) (one_power (level - 1))

-- what is taken leaves less work
pub node_work : (x : Candidate) (queue rest : List Candidate) → IsPermutation queue (x ∷ rest)
    → work_in rest + 101 ^ x.level ≡ work_in queue
node_work x queue rest perm = let left = sum_by_popped work_of x queue rest perm in omega (arith, left)

pub some_work : (x : Candidate) → 0 < 101 ^ x.level
some_work x = one_power x.level

-- what is moved from one list to another, but for what is left out
pub moved_work : (xs ys us vs : List Candidate) → IsPermutation (xs ++ ys) (us ++ vs)
    → work_in us + work_in vs ≡ work_in xs + work_in ys
moved_work xs ys us vs perm =
    omega (
      arith,
      sum_by-append work_of xs ys,
      sum_by-append work_of us vs,
      sum_by-IsPermutation work_of (xs ++ ys) (us ++ vs) perm,
    )

-- the same where some of what was there before stays
pub settled_work : (xs ys us vs gone : List Candidate) → IsPermutation (xs ++ ys) ((us ++ vs) ++ gone)
    → work_in us + work_in vs + work_in gone ≡ work_in xs + work_in ys
settled_work xs ys us vs gone perm =
    omega (arith, moved_work xs ys (us ++ vs) gone perm, sum_by-append work_of us vs)
