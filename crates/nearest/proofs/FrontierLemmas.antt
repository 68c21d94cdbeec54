-- A search for the nearest objects over plain values: what was seen, what waits, and what lies below that.
use Rattle.std.proofs.Common.{◌≡◌, ◌∙◌, ℕ, zero, suc, ◌+◌, ◌-◌, ◌<◌, ◌≤◌, Bool, true, false, cond, List, []}
use Rattle.std.proofs.Common.{◌∷◌, ◌++◌, take, get_or, map, sum_by, All, IsPermutation, refl, sym, ap, subst}
use Rattle.std.proofs.Common.{arith}
use Rattle.std.specs.Prelude.{⊤}
use Rattle.std.proofs.lemmas.List.Elements.{All-nil, All-cons, All-head, All-tail, All-append}
use Rattle.std.proofs.lemmas.List.Sums.{sum_by-cons, sum_by-append}
use Rattle.std.proofs.lemmas.List.Sorted.{All-permutation, sum_by-IsPermutation}
use Rattle.block_device.specs.Device.{one_more}
use Rattle.box_math.specs.Bounds.{Bounds}
use Rattle.box_math.specs.Objects.{bounds_of}
use Rattle.tree_node.specs.Searches.{counted, reached}
use Rattle.tree_node.specs.Trees.{Row, end, more, object, child, row_items}
use Rattle.node_page.specs.Standing.{PageMap, RowStands, StandsAt}
use Rattle.nearest.specs.declared.candidate.Candidate.{Candidate}
use Rattle.nearest.specs.Candidates.{Past, candidate_at, row_at}
use Rattle.box_math.specs.Nearest.{nearest_first}
use Rattle.nearest.proofs.OrderLemmas.{listed, listed-append}
use Rattle.nearest.proofs.AnswerLemmas.{AllPast, AllPast-append, NoneNearer, and_then, and_then-listed}
use Rattle.nearest.proofs.AnswerLemmas.{first_of_all, nearest_same, offered_past, past_le, past_offered}

-- ---- the parts of a list

pub all_front : {X : Type 0} (P : X → Type 0) (xs ys : List X) → All P (xs ++ ys) → All P xs
all_front P [] ys h = All-nil P
all_front P (x ∷ xs) ys h =
    All-cons P x xs (All-head P x (xs ++ ys) h) (all_front P xs ys (All-tail P x (xs ++ ys) h))

pub all_back : {X : Type 0} (P : X → Type 0) (xs ys : List X) → All P (xs ++ ys) → All P ys
all_back P [] ys h = h
all_back P (x ∷ xs) ys h = all_back P xs ys (All-tail P x (xs ++ ys) h)

-- ---- what waits

-- a node, by its distance, its page and its level, with the entries that stand there
pub record Pending : Type 0 where
  pub distance : ℕ
  pub page : ℕ
  pub level : ℕ
  pub row : Row

abbrev pub candidate_for : Pending → Candidate
candidate_for p = record { distance = p.distance; page = p.page; level = p.level }

abbrev pub IsThere : ℕ → PageMap → Pending → Type 0
IsThere dims m p = StandsAt dims m p.page p.level p.row

-- below a node no box is nearer than the one above it, and none is nearer than this
abbrev pub Nested : (Bounds → ℕ) → ℕ → Row → Type 0
Nested far d end = ⊤
Nested far d (more (object kept id) rest) = (d ≤ far (bounds_of kept)) × Nested far d rest
Nested far d (more (child bounds page below) rest) = (d ≤ far bounds) × Nested far (far bounds) below
    × Nested far d rest

abbrev pub IsAtLeast : (Bounds → ℕ) → ℕ → Pending → Type 0
IsAtLeast far least p = (least ≤ p.distance) × Nested far p.distance p.row

-- the first k of what was seen are nearer than this node, and than all below it
abbrev pub IsPast : (Bounds → ℕ) → ℕ → List (ℕ × ℕ) → Pending → Type 0
IsPast far k seen p = Nested far p.distance p.row × Past p.distance k (nearest_first seen)

-- the objects below a node with their distances
abbrev pub near_in : (Bounds → ℕ) → Row → List (ℕ × ℕ)
near_in far end = []
near_in far (more (object kept id) rest) = (id, far (bounds_of kept)) ∷ near_in far rest
near_in far (more (child bounds page below) rest) = near_in far below ++ near_in far rest

abbrev pub listed_under : (Bounds → ℕ) → ℕ × ℕ → Pending → ℕ
listed_under far z p = listed z (near_in far p.row)

-- how many nodes a bound on distances admits of what waits
abbrev pub admitted_of : (Bounds → ℕ) → (ℕ → Bool) → Pending → ℕ
admitted_of far within p = cond (within p.distance) (1 + reached (λ b. within (far b)) p.row) 0

-- the children of a node, as what waits
abbrev pub branches : (Bounds → ℕ) → ℕ → Row → List Pending
branches far level end = []
branches far level (more (object kept id) rest) = branches far level rest
branches far level (more (child bounds page below) rest) =
    record { distance = far bounds; page = page; level = level - 1; row = below } ∷ branches far level rest

-- ---- the entries of a node

pub branches_candidates : (dims : ℕ) (m : PageMap) (far : Bounds → ℕ) (level : ℕ) (row : Row) → 0 < level
    → RowStands dims m level row
    → map candidate_for (branches far level row) ≡ map (candidate_at far level) (row_items row)
branches_candidates dims m far level end above stands = refl
branches_candidates dims m far level (more (object kept id) rest) above stands =
    absurd (omega (arith, above, stands.0))
branches_candidates dims m far level (more (child bounds page below) rest) above stands =
    ap (λ (cs : List Candidate). record { distance = far bounds; page = page; level = level - 1 } ∷ cs)
    (branches_candidates dims m far level rest above stands.3)

pub rows_of_leaf : (dims : ℕ) (m : PageMap) (far : Bounds → ℕ) (row : Row) → RowStands dims m 0 row
    → map (row_at far) (row_items row) ≡ near_in far row
rows_of_leaf dims m far end stands = refl
rows_of_leaf dims m far (more (object kept id) rest) stands =
    ap (λ (rs : List (ℕ × ℕ)). (id, far (bounds_of kept)) ∷ rs) (rows_of_leaf dims m far rest stands.1)
rows_of_leaf dims m far (more (child bounds page below) rest) stands = absurd (omega (arith, stands.0))

pub branches_there : (dims : ℕ) (m : PageMap) (far : Bounds → ℕ) (level : ℕ) (row : Row)
    → RowStands dims m level row → All (IsThere dims m) (branches far level row)
branches_there dims m far level end stands = All-nil (IsThere dims m)
branches_there dims m far level (more (object kept id) rest) stands =
    branches_there dims m far level rest stands.1
branches_there dims m far level (more (child bounds page below) rest) stands =
    All-cons (IsThere dims m) _ _ (record { node = stands.1; below = stands.2 })
    (branches_there dims m far level rest stands.3)

pub branches_far : (far : Bounds → ℕ) (level d : ℕ) (row : Row) → Nested far d row
    → All (IsAtLeast far d) (branches far level row)
branches_far far level d end nested = All-nil (IsAtLeast far d)
branches_far far level d (more (object kept id) rest) nested = branches_far far level d rest nested.1
branches_far far level d (more (child bounds page below) rest) nested =
    All-cons (IsAtLeast far d) _ _ (nested.0, nested.1) (branches_far far level d rest nested.2)

-- above the leaves
pub branches_listed : (dims : ℕ) (m : PageMap) (far : Bounds → ℕ) (level : ℕ) (z : ℕ × ℕ) (row : Row)
    → 0 < level → RowStands dims m level row
    → sum_by (listed_under far z) (branches far level row) ≡ listed z (near_in far row)
branches_listed dims m far level z end above stands = refl
branches_listed dims m far level z (more (object kept id) rest) above stands =
    absurd (omega (arith, above, stands.0))
branches_listed dims m far level z (more (child bounds page below) rest) above stands =
    omega (
      arith,
      sum_by-cons (listed_under far z)
          (record { distance = far bounds; page = page; level = level - 1; row = below })
          (branches far level rest),
      branches_listed dims m far level z rest above stands.3,
      listed-append z (near_in far below) (near_in far rest),
    )

pub branches_admitted : (far : Bounds → ℕ) (within : ℕ → Bool) (level : ℕ) (row : Row)
    → sum_by (admitted_of far within) (branches far level row) ≡ reached (λ b. within (far b)) row
branches_admitted far within level end = refl
branches_admitted far within level (more (object kept id) rest) = branches_admitted far within level rest
branches_admitted far within level (more (child bounds page below) rest) =
    sum_by-cons (admitted_of far within)
    (record { distance = far bounds; page = page; level = level - 1; row = below })
    (branches far level rest)
    ∙ ap (λ n. cond (within (far bounds)) (1 + reached (λ b. within (far b)) below) 0 + n)
    (branches_admitted far within level rest)

-- a leaf has no node below
pub leaf_reached : (dims : ℕ) (m : PageMap) (p : Bounds → Bool) (row : Row) → RowStands dims m 0 row
    → reached p row ≡ 0
leaf_reached dims m p end stands = refl
leaf_reached dims m p (more (object kept id) rest) stands = leaf_reached dims m p rest stands.1
leaf_reached dims m p (more (child bounds page below) rest) stands = absurd (omega (arith, stands.0))

pub none_nearer : (far : Bounds → ℕ) (d : ℕ) (dims : ℕ) (m : PageMap) (row : Row) → RowStands dims m 0 row
    → Nested far d row → NoneNearer d (near_in far row)
none_nearer far d dims m end stands nested = tt
none_nearer far d dims m (more (object kept id) rest) stands nested =
    (nested.0, none_nearer far d dims m rest stands.1 nested.1)
none_nearer far d dims m (more (child bounds page below) rest) stands nested =
    absurd (omega (arith, stands.0))

-- what lies below a node that is past is past
pub nested_past : (far : Bounds → ℕ) (k d : ℕ) (best : List (ℕ × ℕ)) (row : Row) → Past d k best
    → Nested far d row → AllPast k best (near_in far row)
nested_past far k d best end past nested = tt
nested_past far k d best (more (object kept id) rest) past nested =
    (past_le d (far (bounds_of kept)) k best nested.0 past, nested_past far k d best rest past nested.1)
nested_past far k d best (more (child bounds page below) rest) past nested =
    AllPast-append k best (near_in far below) (near_in far rest)
    (nested_past far k (far bounds) best below (past_le d (far bounds) k best nested.0 past) nested.1)
    (nested_past far k d best rest past nested.2)

-- ---- the state of a search

-- a bound on distances that reaches this far
abbrev pub Reaches : (ℕ → Bool) → ℕ → Type 0
Reaches within d = (e : ℕ) → e ≤ d → within e ≡ true

-- Below the root all was seen, or lies below what waits, or below what was left out since the first k of what
-- was seen are nearer. The nodes that were looked into are those that each bound admits that reaches the last
-- of them, but for what lies below the others; and the first k are not all nearer than that.
pub record Front (dims : ℕ) (m : PageMap) (far : Bounds → ℕ) (whole : Row) (k : ℕ)
    (waiting gone : List Pending) (last : ℕ) (seen : List (ℕ × ℕ)) (looks looks_now : ℕ) : Type 0 where
  pub there : All (IsThere dims m) waiting
  pub apart : All (IsAtLeast far last) waiting
  pub left : All (IsPast far k seen) gone
  pub all : (z : ℕ × ℕ)
      → listed z (near_in far whole) ≡ listed z
      seen + (sum_by (listed_under far z) waiting + sum_by (listed_under far z) gone)
  pub near : Past last k (nearest_first seen) → ⊥
  pub looked : (within : ℕ → Bool) → Reaches within last
      → counted looks (1 + reached (λ b. within (far b)) whole) ≡ counted looks_now
      (sum_by (admitted_of far within) waiting + sum_by (admitted_of far within) gone)

one_pending : (f : Pending → ℕ) (p : Pending) → sum_by f (p ∷ []) ≡ f p
one_pending f p = sum_by-cons f p [] ∙ omega arith

none_past : (d k : ℕ) → 1 ≤ k → Past d k [] → ⊥
none_past d zero some h = absurd (omega (arith, some))
none_past d (suc k) some h = h

-- the root waits
pub front_begins : (dims : ℕ) (m : PageMap) (far : Bounds → ℕ) (whole : Row) (k page level looks : ℕ) → 1 ≤ k
    → StandsAt dims m page level whole → Nested far 0 whole
    → Front dims m far whole k (record { distance = 0; page = page; level = level; row = whole } ∷ []) [] 0
    [] looks looks
front_begins dims m far whole k page level looks some at nested =
    let root : Pending = record { distance = 0; page = page; level = level; row = whole } in
    record {
      there = All-cons (IsThere dims m) root [] at (All-nil (IsThere dims m));
      apart = All-cons (IsAtLeast far 0) root [] (omega arith, nested) (All-nil (IsAtLeast far 0));
      left = All-nil (IsPast far k []);
      all = λ z. let one = one_pending (listed_under far z) root in omega (arith, one);
      near = none_past 0 k some;
      looked = λ within reaches.
          let here : within 0 ≡ true = reaches 0 (omega arith) in
          let waits : sum_by (admitted_of far within) (root ∷ []) ≡ 1 + reached (λ b. within (far b)) whole =
          one_pending (admitted_of far within) root
          ∙ ap (λ (b : Bool). cond b (1 + reached (λ b. within (far b)) whole) 0) here in
          ap (counted looks) (omega (arith, waits));
    }

left_seen : (far : Bounds → ℕ) (k : ℕ) (xs seen : List (ℕ × ℕ)) (gone : List Pending)
    → All (IsPast far k seen) gone → All (IsPast far k (and_then xs seen)) gone
left_seen far k xs seen gone left =
    λ i e lt. ((left i e lt).0, past_offered (get_or gone i e).distance k xs seen (left i e lt).1)

module _ {dims : ℕ} {m : PageMap} {far : Bounds → ℕ} {whole : Row} {k last : ℕ} {gone : List Pending}
    {seen : List (ℕ × ℕ)} {looks looks_now : ℕ} where
  -- the order of what waits does not matter
  pub front_reordered : (ps qs : List Pending) → Front dims m far whole k ps gone last seen looks looks_now
      → IsPermutation ps qs → Front dims m far whole k qs gone last seen looks looks_now
  front_reordered ps qs f perm = record {
    there = All-permutation (IsThere dims m) ps qs perm f.there;
    apart = All-permutation (IsAtLeast far last) ps qs perm f.apart;
    left = f.left;
    all = λ z. let same = sum_by-IsPermutation (listed_under far z) ps qs perm in
        omega (arith, f.all z, same);
    near = f.near;
    looked = λ within reaches. let same = sum_by-IsPermutation (admitted_of far within) ps qs perm in
        f.looked within reaches ∙ ap (counted looks_now) (omega (arith, same));
  }

  -- what is past is left out
  pub front_left : (ps qs : List Pending)
      → Front dims m far whole k (ps ++ qs) gone last seen looks looks_now
      → All (λ p. Past p.distance k (nearest_first seen)) qs
      → Front dims m far whole k ps (gone ++ qs) last seen looks looks_now
  front_left ps qs f past =
      let apart = all_back (IsAtLeast far last) ps qs f.apart in
      record {
        there = all_front (IsThere dims m) ps qs f.there;
        apart = all_front (IsAtLeast far last) ps qs f.apart;
        left = All-append (IsPast far k seen) gone qs f.left (λ i e lt. ((apart i e lt).1, past i e lt));
        all = λ z. let a = sum_by-append (listed_under far z) ps qs in
            let b = sum_by-append (listed_under far z) gone qs in omega (arith, f.all z, a, b);
        near = f.near;
        looked = λ within reaches.
            let a = sum_by-append (admitted_of far within) ps qs in
            let b = sum_by-append (admitted_of far within) gone qs in
            f.looked within reaches ∙ ap (counted looks_now) (omega (arith, a, b));
      }

  module _ (p : Pending) (ps : List Pending)
      (f : Front dims m far whole k (p ∷ ps) gone last seen looks looks_now)
      (least : All (λ q. p.distance ≤ q.distance) ps)
      (within_reach : Past p.distance k (nearest_first seen) → ⊥) where
    above : last ≤ p.distance
    above = (All-head (IsAtLeast far last) p ps f.apart).0

    nested : Nested far p.distance p.row
    nested = (All-head (IsAtLeast far last) p ps f.apart).1

    stands : StandsAt dims m p.page p.level p.row
    stands = All-head (IsThere dims m) p ps f.there

    rest_apart : All (IsAtLeast far p.distance) ps
    rest_apart = λ i e lt. (least i e lt, (All-tail (IsAtLeast far last) p ps f.apart i e lt).1)

    opened : (within : ℕ → Bool) → Reaches within p.distance
        → sum_by (admitted_of far within) (p ∷ ps) ≡ 1 + reached (λ b. within (far b)) p.row + sum_by
        (admitted_of far within) ps
    opened within reaches =
        let inside : within p.distance ≡ true = reaches p.distance (omega arith) in
        sum_by-cons (admitted_of far within) p ps
        ∙ ap (λ (b : Bool). cond b (1 + reached (λ b. within (far b)) p.row) 0 + sum_by
        (admitted_of far within) ps) inside

    -- a leaf is looked into that is no farther than all that is left
    pub leaf_opened : p.level ≡ 0
        → Front dims m far whole k ps gone p.distance (and_then (near_in far p.row) seen) looks
        (one_more looks_now)
    leaf_opened leaf =
        let at : RowStands dims m 0 p.row = subst (λ (l : ℕ). RowStands dims m l p.row) leaf stands.below in
        record {
          there = All-tail (IsThere dims m) p ps f.there;
          apart = rest_apart;
          left = left_seen far k (near_in far p.row) seen gone f.left;
          all = λ z.
              let waited = sum_by-cons (listed_under far z) p ps in
              let now = and_then-listed z (near_in far p.row) seen in
              omega (arith, f.all z, waited, now);
          near = λ past. within_reach
              (offered_past p.distance k (near_in far p.row) seen
              (none_nearer far p.distance dims m p.row at nested) past);
          looked = λ within reaches.
              let waited = opened within reaches in
              let none = leaf_reached dims m (λ b. within (far b)) p.row at in
              f.looked within (λ e le. reaches e (omega (arith, le, above))) ∙ omega (arith, waited, none);
        }

    -- so is a node above the leaves
    pub node_opened : 0 < p.level
        → Front dims m far whole k (ps ++ branches far p.level p.row) gone p.distance seen looks
        (one_more looks_now)
    node_opened high = record {
      there = All-append (IsThere dims m) ps (branches far p.level p.row)
          (All-tail (IsThere dims m) p ps f.there) (branches_there dims m far p.level p.row stands.below);
      apart = All-append (IsAtLeast far p.distance) ps (branches far p.level p.row) rest_apart
          (branches_far far p.level p.distance p.row nested);
      left = f.left;
      all = λ z.
          let waited = sum_by-cons (listed_under far z) p ps in
          let now = sum_by-append (listed_under far z) ps (branches far p.level p.row) in
          let below = branches_listed dims m far p.level z p.row high stands.below in
          omega (arith, f.all z, waited, now, below);
      near = within_reach;
      looked = λ within reaches.
          let waited = opened within reaches in
          let now = sum_by-append (admitted_of far within) ps (branches far p.level p.row) in
          let below = branches_admitted far within p.level p.row in
          f.looked within (λ e le. reaches e (omega (arith, le, above))) ∙ omega (arith, waited, now, below);
    }

-- ---- what is answered

-- all objects below what waits
abbrev pub under_all : (Bounds → ℕ) → List Pending → List (ℕ × ℕ)
under_all far [] = []
under_all far (p ∷ ps) = near_in far p.row ++ under_all far ps

under_all_listed : (far : Bounds → ℕ) (z : ℕ × ℕ) (ps : List Pending)
    → listed z (under_all far ps) ≡ sum_by (listed_under far z) ps
under_all_listed far z [] = refl
under_all_listed far z (p ∷ ps) =
    omega (
      arith,
      listed-append z (near_in far p.row) (under_all far ps),
      sum_by-cons (listed_under far z) p ps,
      under_all_listed far z ps,
    )

under_all_past : (far : Bounds → ℕ) (k : ℕ) (seen : List (ℕ × ℕ)) (ps : List Pending)
    → All (IsPast far k seen) ps → AllPast k (nearest_first seen) (under_all far ps)
under_all_past far k seen [] past = tt
under_all_past far k seen (p ∷ ps) past =
    let here = All-head (IsPast far k seen) p ps past in
    AllPast-append k (nearest_first seen) (near_in far p.row) (under_all far ps)
    (nested_past far k p.distance (nearest_first seen) p.row here.1 here.0)
    (under_all_past far k seen ps (All-tail (IsPast far k seen) p ps past))

pub none_admitted : (far : Bounds → ℕ) (within : ℕ → Bool) (k : ℕ) (seen : List (ℕ × ℕ)) (ps : List Pending)
    → ((e : ℕ) → Past e k (nearest_first seen) → within e ≡ false) → All (IsPast far k seen) ps
    → sum_by (admitted_of far within) ps ≡ 0
none_admitted far within k seen [] outside past = refl
none_admitted far within k seen (p ∷ ps) outside past =
    let here : admitted_of far within p ≡ 0 =
    ap (λ (b : Bool). cond b (1 + reached (λ b. within (far b)) p.row) 0)
    (outside p.distance (All-head (IsPast far k seen) p ps past).1) in
    sum_by-cons (admitted_of far within) p ps
    ∙ omega (
      arith,
      here,
      none_admitted far within k seen ps outside (All-tail (IsPast far k seen) p ps past),
    )

-- nothing waits that is not past, so the first k of what was seen are the first k of all
pub answered : {dims : ℕ} {m : PageMap} {far : Bounds → ℕ} {whole : Row} {k last : ℕ} {gone : List Pending}
    {seen : List (ℕ × ℕ)} {looks looks_now : ℕ}
    → Front dims m far whole k [] gone last seen looks looks_now
    → take k (nearest_first seen) ≡ take k (nearest_first (near_in far whole))
answered {far = far} {whole = whole} {k = k} {gone = gone} {seen = seen} f =
    sym
    (ap (take k)
    (nearest_same (near_in far whole) (under_all far gone ++ seen)
    (λ z. let a = under_all_listed far z gone in let b = listed-append z (under_all far gone) seen in
    omega (arith, f.all z, a, b)))
    ∙ first_of_all k seen (under_all far gone) (under_all_past far k seen gone f.left))
