-- A search at a cache: what waits in the queue, what is kept of what was seen, and how often it looked.
use Rattle.std.proofs.Common.{◌≡◌, ◌∙◌, ℕ, zero, suc, ◌+◌, ◌-◌, ◌^◌, ◌<◌, ◌≤◌, None, Bool, true, false, ◌||◌}
use Rattle.std.proofs.Common.{nat_lt, nat_le, ℤ, Some, List, [], ◌∷◌, ◌++◌, length, take, set, get_or, map}
use Rattle.std.proofs.Common.{sum_by, All, IsPermutation, refl, sym, ap, subst, ⊎_elim, arith}
use Rattle.std.specs.List.{swap}
use Rattle.std.proofs.lemmas.Bool.{cases_lt}
use Rattle.std.proofs.lemmas.Bool.Decides.{nat_tests}
use Rattle.std.proofs.lemmas.List.{append-nil, append_assoc, map-append, length-map, map-set}
use Rattle.std.proofs.lemmas.List.Elements.{All-nil, All-cons, All-head, All-tail, All-append}
use Rattle.std.proofs.lemmas.List.Sorted.{All-permutation, IsPermutation-append_left}
use Rattle.std.proofs.lemmas.List.Sorted.{IsPermutation-append_right, IsPermutation-cons}
use Rattle.std.proofs.lemmas.List.Sorted.{IsPermutation-middle, IsPermutation-to_front, IsPermutation-keeps}
use Rattle.std.proofs.lemmas.List.Sorted.{IsPermutation-refl, IsPermutation-swap, IsPermutation-sym}
use Rattle.std.proofs.lemmas.List.Sorted.{IsPermutation-trans}
use Rattle.std.proofs.Math.ListN.{get_or-map}
use Rattle.block_device.specs.Device.{one_more}
use Rattle.box_math.specs.Bounds.{Bounds}
use Rattle.box_math.specs.Measures.{point_dist2_of}
use Rattle.box_math.proofs.Growth.{point_dist2_of-falls}
use Rattle.page_cache.specs.Cache.{IsHonest, given, looks_of, pages}
use Rattle.page_cache.specs.Calls.{Asks, AsksUntil, asks_and_refuses, asks_in_turn, no_call_asks}
use Rattle.page_file.specs.declared.fault.Fault.{Fault}
use Rattle.page_file.specs.declared.fault.Fault.TheVariants as fault
use Rattle.std.specs.Prelude.{IsErrAnd, OnOk, Result, Ok, Err}
use Rattle.page_cache.specs.Laws.{looks_are_few}
use Rattle.page_cache.specs.declared.cache.PageCache.{PageCache}
use Rattle.tree_node.specs.Searches.{Guards, admitted, counted, reached}
use Rattle.node_page.specs.Checked.{Names}
use Rattle.node_page.specs.Rooted.{IsTreeAt}
use Rattle.tree_node.specs.Nodes.{NodeContent}
use Rattle.tree_node.specs.Trees.{Row, Tree, row_items}
use Rattle.node_page.specs.Standing.{PageMap, RowStands, StandsAt, node_in}
use Rattle.node_page.proofs.RootedLemmas.{boxes_ordered, loose, tree_at}
use Rattle.tree_node.specs.declared.node.Root.{Root}
use Rattle.tree_node.specs.Shape.{HasLooseShape}
use Rattle.tree_node.proofs.SearchLemmas.{admitted_are_reached}
use Rattle.nearest.specs.declared.candidate.Candidate.{Candidate}
use Rattle.nearest.specs.Candidates.{Appends, IsAsFar, Past, candidate_at, offered, row_at}
use Rattle.box_math.specs.Nearest.{nearest_first}
use Rattle.nearest.specs.Nearest.{is_searched, nearest_rows}
use Rattle.nearest.proofs.OrderLemmas.{Ascends-nearest_first}
use Rattle.nearest.proofs.DamageLemmas.{IsReached, begins_so, children_reached, of_first, of_settled}
use Rattle.nearest.proofs.DamageLemmas.{of_shared}
use Rattle.nearest.proofs.AnswerLemmas.{and_then, last_past, offered_are_first, past_last, past_le}
use Rattle.nearest.proofs.AnswerLemmas.{past_length, past_or_not, past_take, take_past}
use Rattle.nearest.proofs.FrontierLemmas.{Front, Pending, admitted_of, all_front, answered, branches}
use Rattle.nearest.proofs.FrontierLemmas.{branches_candidates, candidate_for, front_begins, front_left}
use Rattle.nearest.proofs.FrontierLemmas.{front_reordered, leaf_opened, near_in, node_opened, none_admitted}
use Rattle.nearest.proofs.FrontierLemmas.{rows_of_leaf}
use Rattle.nearest.proofs.ShapeLemmas.{near_in_is, nested_root}

-- ---- what waits, in the order of the queue

record Waits (ps : List Pending) (queue : List Candidate) : Type 0 where
  qs : List Pending
  perm : IsPermutation ps qs
  same : map candidate_for qs ≡ queue

map_swap : (ps : List Pending) (i j : ℕ) → map candidate_for (swap ps i j) ≡ swap (map candidate_for ps) i j
map_swap [] i j = refl
map_swap (p ∷ ps) i j =
    let all = p ∷ ps in
    map-set candidate_for (set all i (get_or all j p)) j (get_or all i p)
    ∙ ap (λ (cs : List Candidate). set cs j (candidate_for (get_or all i p)))
    (map-set candidate_for all i (get_or all j p))
    ∙ ap (λ (c : Candidate). set (set (map candidate_for all) i c) j (candidate_for (get_or all i p)))
    (sym (get_or-map candidate_for all j p))
    ∙ ap (λ (c : Candidate). set
    (set (map candidate_for all) i (get_or (map candidate_for all) j (candidate_for p))) j c)
    (sym (get_or-map candidate_for all i p))

-- what waits behind a queue waits in each other order of it
behind : (ps : List Pending) (queue other : List Candidate) → map candidate_for ps ≡ queue
    → IsPermutation queue other → Waits ps other
behind ps queue other same perm =
    IsPermutation-keeps queue (Waits ps) (record { qs = ps; perm = IsPermutation-refl ps; same = same })
    (λ l i j li lj w.
    let many = length-map w.qs candidate_for in
    let long = ap length w.same in
    record {
      qs = swap w.qs i j;
      perm = IsPermutation-trans ps w.qs (swap w.qs i j) w.perm
          (IsPermutation-swap w.qs (swap w.qs i j) i j (omega (arith, li, many, long))
          (omega (arith, lj, many, long)) refl);
      same = map_swap w.qs i j ∙ ap (λ (cs : List Candidate). swap cs i j) w.same;
    })
    other perm

pub record Frontier (dims : ℕ) (m : PageMap) (far : Bounds → ℕ) (whole : Row) (k : ℕ)
    (waits : List Candidate) (best : List (ℕ × ℕ)) (looks looks_now : ℕ) : Type 0 where
  pub pending : List Pending
  pub gone : List Pending
  pub last : ℕ
  pub seen : List (ℕ × ℕ)
  pub same : map candidate_for pending ≡ waits
  pub front : Front dims m far whole k pending gone last seen looks looks_now
  pub best_is : best ≡ take k (nearest_first seen)

-- the first that waits
record First (ps : List Pending) (x : Candidate) (rest : List Candidate) : Type 0 where
  head : Pending
  tail : List Pending
  is : ps ≡ head ∷ tail
  head_is : candidate_for head ≡ x
  tail_is : map candidate_for tail ≡ rest

first_of : (ps : List Pending) (x : Candidate) (rest : List Candidate) → map candidate_for ps ≡ x ∷ rest
    → First ps x rest
first_of [] x rest same = absurd (cc)
first_of (p ∷ ps) x rest same = record { head = p; tail = ps; is = refl; head_is = cc; tail_is = cc }

-- the two parts of what waits
record Parts (ps : List Pending) (xs ys : List Candidate) : Type 0 where
  qs : List Pending
  rs : List Pending
  is : ps ≡ qs ++ rs
  xs_is : map candidate_for qs ≡ xs
  ys_is : map candidate_for rs ≡ ys

parts_of : (xs ys : List Candidate) (ps : List Pending) → map candidate_for ps ≡ xs ++ ys → Parts ps xs ys
parts_of [] ys ps same = record { qs = []; rs = ps; is = refl; xs_is = refl; ys_is = same }
parts_of (x ∷ xs) ys [] same = absurd (cc)
parts_of (x ∷ xs) ys (p ∷ ps) same =
    let later = parts_of xs ys ps (cc) in
    record {
      qs = p ∷ later.qs;
      rs = later.rs;
      is = ap (λ (os : List Pending). p ∷ os) later.is;
      xs_is = (let xs_are = later.xs_is in cc);
      ys_is = later.ys_is;
    }

all_unmapped : (P : Candidate → Type 0) (ps : List Pending) → All P (map candidate_for ps)
    → All (λ p. P (candidate_for p)) ps
all_unmapped P [] h = All-nil (λ p. P (candidate_for p))
all_unmapped P (p ∷ ps) h =
    All-cons (λ q. P (candidate_for q)) p ps (All-head P (candidate_for p) (map candidate_for ps) h)
    (all_unmapped P ps (All-tail P (candidate_for p) (map candidate_for ps) h))

-- the first that waits stands in the pages, and is looked into
pub record Opened (dims : ℕ) (m : PageMap) (far : Bounds → ℕ) (whole : Row) (k : ℕ) (best : List (ℕ × ℕ))
    (looks looks_now : ℕ) (x : Candidate) (rest : List Candidate) : Type 0 where
  pub row : Row
  pub there : StandsAt dims m x.page x.level row
  pub leaf : x.level ≡ 0
      → Frontier dims m far whole k rest (offered k best (map (row_at far) (row_items row))) looks
      (one_more looks_now)
  pub node : 0 < x.level
      → Frontier dims m far whole k (rest ++ map (candidate_at far x.level) (row_items row)) best looks
      (one_more looks_now)

module _ {dims : ℕ} {m : PageMap} {far : Bounds → ℕ} {whole : Row} {k : ℕ} {best : List (ℕ × ℕ)}
    {looks looks_now : ℕ} where
  reordered : (waits other : List Candidate) → Frontier dims m far whole k waits best looks looks_now
      → IsPermutation waits other → Frontier dims m far whole k other best looks looks_now
  reordered waits other f perm =
      let w = behind f.pending waits other f.same perm in
      record {
        pending = w.qs;
        gone = f.gone;
        last = f.last;
        seen = f.seen;
        same = w.same;
        front = front_reordered f.pending w.qs f.front w.perm;
        best_is = f.best_is;
      }

  -- what is farther than the k best is left out
  left_out : (waits others : List Candidate)
      → Frontier dims m far whole k (waits ++ others) best looks looks_now
      → All (λ c. Past c.distance k best) others → Frontier dims m far whole k waits best looks looks_now
  left_out waits others f past =
      let p = parts_of waits others f.pending f.same in
      let far_off : All (λ c. Past c.distance k best) (map candidate_for p.rs) =
      subst (λ (cs : List Candidate). All (λ c. Past c.distance k best) cs) (sym p.ys_is) past in
      let each = all_unmapped (λ c. Past c.distance k best) p.rs far_off in
      record {
        pending = p.qs;
        gone = f.gone ++ p.rs;
        last = f.last;
        seen = f.seen;
        same = p.xs_is;
        front = front_left p.qs p.rs
            (subst (λ (ps : List Pending). Front dims m far whole k ps f.gone f.last f.seen looks looks_now)
            p.is f.front)
            (λ i e lt. take_past (get_or p.rs i e).distance k (nearest_first f.seen)
            (subst (λ (b : List (ℕ × ℕ)). Past (get_or p.rs i e).distance k b) f.best_is (each i e lt)));
        best_is = f.best_is;
      }

  opened_at : (gone : List Pending) (last : ℕ) (seen : List (ℕ × ℕ)) (p : Pending) (ps : List Pending)
      (rest : List Candidate) → map candidate_for ps ≡ rest
      → Front dims m far whole k (p ∷ ps) gone last seen looks looks_now → best ≡ take k (nearest_first seen)
      → All (IsAsFar p.distance) rest → (Past p.distance k best → ⊥)
      → Opened dims m far whole k best looks looks_now (candidate_for p) rest
  opened_at gone last seen p ps rest same f is least within =
      let there : StandsAt dims m p.page p.level p.row = f.there 0 p (omega arith) in
      let as_far =
      all_unmapped (IsAsFar p.distance) ps
      (subst (λ (cs : List Candidate). All (IsAsFar p.distance) cs) (sym same) least) in
      let near : Past p.distance k (nearest_first seen)
      → ⊥ = λ past. within
      (subst (λ (b : List (ℕ × ℕ)). Past p.distance k b) (sym is)
      (past_take p.distance k (nearest_first seen) past)) in
      record {
        row = p.row;
        there = there;
        leaf = λ leaf. record {
          pending = ps;
          gone = gone;
          last = p.distance;
          seen = and_then (near_in far p.row) seen;
          same = same;
          front = leaf_opened p ps f as_far near leaf;
          best_is =
              ap (offered k best)
              (rows_of_leaf dims m far p.row (subst (λ (l : ℕ). RowStands dims m l p.row) leaf there.below))
              ∙ offered_are_first k best (near_in far p.row) seen is;
        };
        node = λ high. record {
          pending = ps ++ branches far p.level p.row;
          gone = gone;
          last = p.distance;
          seen = seen;
          same = map-append candidate_for ps (branches far p.level p.row)
              ∙ ap (λ (cs : List Candidate). cs ++ map candidate_for (branches far p.level p.row)) same
              ∙ ap (λ (cs : List Candidate). rest ++ cs)
              (branches_candidates dims m far p.level p.row high there.below);
          front = node_opened p ps f as_far near high;
          best_is = is;
        };
      }

  opened : (x : Candidate) (rest : List Candidate)
      → Frontier dims m far whole k (x ∷ rest) best looks looks_now → All (IsAsFar x.distance) rest
      → (Past x.distance k best → ⊥) → Opened dims m far whole k best looks looks_now x rest
  opened x rest f least within =
      let p = first_of f.pending x rest f.same in
      let front : Front dims m far whole k (p.head ∷ p.tail) f.gone f.last f.seen looks looks_now =
      subst (λ (ps : List Pending). Front dims m far whole k ps f.gone f.last f.seen looks looks_now)
      p.is f.front in
      subst (λ (y : Candidate). Opened dims m far whole k best looks looks_now y rest) p.head_is
      (opened_at f.gone f.last f.seen p.head p.tail rest p.tail_is front f.best_is
      (subst (λ (y : Candidate). All (IsAsFar y.distance) rest) (sym p.head_is) least)
      (subst (λ (y : Candidate). Past y.distance k best → ⊥) (sym p.head_is) within))

-- ---- the end of a search

within_near : (n k e f : ℕ) → (k ≤ n → f < e → ⊥) → (nat_lt n k || nat_le e f) ≡ true
within_near n k e f near = at (nat_lt n k || nat_le e f) refl
  where
    at : (b : Bool) → (nat_lt n k || nat_le e f) ≡ b → (nat_lt n k || nat_le e f) ≡ true
    at true is = is
    at false is = absurd (near (grind (arith, nat_tests)) (grind (arith, nat_tests)))

within_far : (n k e f : ℕ) → n ≡ k → f < e → (nat_lt n k || nat_le e f) ≡ false
within_far n k e f all beyond = grind (arith, nat_tests)

abbrev pub far_from : ℕ → List ℤ → Bounds → ℕ
far_from dims point b = point_dist2_of dims b point

kth_is : (j : ℕ) (rows : List (ℕ × ℕ)) → (get_or rows (suc j - 1) (0, 0)).1 ≡ (get_or rows j (0, 0)).1
kth_is j rows = let same : suc j - 1 ≡ j = omega arith in ap (λ (n : ℕ). (get_or rows n (0, 0)).1) same

-- each node was looked into that is no farther than the last of k answers, or each where there are fewer
looked_to_end : (dims : ℕ) (m : PageMap) (point : List ℤ) (whole : Row) (looks looks_now k last : ℕ)
    (gone : List Pending) (seen : List (ℕ × ℕ)) → 1 ≤ k
    → Front dims m (far_from dims point) whole k [] gone last seen looks looks_now → looks_now < 2 ^ 64
    → looks_now ≡ counted looks (1 + reached (is_searched dims k point (take k (nearest_first seen))) whole)
looked_to_end dims m point whole looks looks_now zero last gone seen some f small =
    absurd (omega (arith, some))
looked_to_end dims m point whole looks looks_now (suc j) last gone seen some f small =
    let rows = take (suc j) (nearest_first seen) in
    let within : ℕ
    → Bool = λ e. nat_lt (length rows) (suc j) || nat_le e (get_or rows (suc j - 1) (0, 0)).1 in
    let reaches : (e : ℕ) → e ≤ last
    → within e ≡ true = λ e le. within_near (length rows) (suc j) e (get_or rows (suc j - 1) (0, 0)).1
    (λ many beyond. f.near
    (past_le e last (suc j) (nearest_first seen) le
    (last_past e j (nearest_first seen) (0, 0) (Ascends-nearest_first seen) many
    (omega (arith, beyond, kth_is j rows))))) in
    let none = none_admitted (far_from dims point) within (suc j) seen gone
    (λ e past. within_far (length rows) (suc j) e (get_or rows (suc j - 1) (0, 0)).1
    (past_length e (suc j) (nearest_first seen) past)
    (let near = past_last e j (nearest_first seen) (0, 0) past in omega (arith, near, kth_is j rows)))
    f.left in
    let none_at_all : 0 + sum_by (admitted_of (far_from dims point) within) gone ≡ 0 = omega (arith, none) in
    sym (f.looked within reaches ∙ ap (counted looks_now) none_at_all ∙ omega (arith, small))

empty_queue : (ps : List Pending) → map candidate_for ps ≡ [] → ps ≡ []
empty_queue [] same = refl
empty_queue (p ∷ ps) same = absurd (cc)

take_nil : (k : ℕ) → take k (nearest_first []) ≡ []
take_nil zero = refl
take_nil (suc k) = refl

-- a node that encloses one that is searched is searched
searched_still : (n k d e f : ℕ) → d ≤ e → (nat_lt n k || nat_le e f) ≡ true
    → (nat_lt n k || nat_le d f) ≡ true
searched_still n k d e f near within = grind (arith, nat_tests)

searched_guards : (dims k : ℕ) (point : List ℤ) (rows : List (ℕ × ℕ))
    → Guards dims (is_searched dims k point rows) (is_searched dims k point rows)
searched_guards dims k point rows = λ a b box within passes.
    searched_still (length rows) k (point_dist2_of dims b point) (point_dist2_of dims a point)
    (get_or rows (k - 1) (0, 0)).1 (point_dist2_of-falls dims a b point box within) passes

-- what is promised of the answer
pub record IsAnswer (dims k : ℕ) (point : List ℤ) (t : Tree) (rows : List (ℕ × ℕ))
    (looks looks_now : ℕ) : Type 0 where
  pub rows_are : rows ≡ nearest_rows dims k point t
  pub looks_are : looks_now ≡ counted looks
      (admitted (is_searched dims k point (nearest_rows dims k point t)) t)

answer_of : (dims k most : ℕ) (point : List ℤ) (t : Tree) (rows : List (ℕ × ℕ)) (looks looks_now : ℕ)
    → HasLooseShape dims most t → rows ≡ take k (nearest_first (near_in (far_from dims point) t.row))
    → looks_now ≡ counted looks (1 + reached (is_searched dims k point rows) t.row)
    → IsAnswer dims k point t rows looks looks_now
answer_of dims k most point t rows looks looks_now shape is looked =
    let same : rows ≡ nearest_rows dims k point t = is
    ∙ ap (λ (xs : List (ℕ × ℕ)). take k (nearest_first xs)) (near_in_is dims point t.row) in
    let nodes =
    admitted_are_reached dims most t (is_searched dims k point (nearest_rows dims k point t)) shape
    (searched_guards dims k point (nearest_rows dims k point t)) in
    record {
      rows_are = same;
      looks_are =
          subst (λ (rs : List (ℕ × ℕ)). looks_now ≡ counted looks
          (1 + reached (is_searched dims k point rs) t.row)) same looked ∙ ap (counted looks) (sym nodes);
    }

none_as_far : (d : ℕ) → All (IsAsFar d) []
none_as_far d = All-nil (IsAsFar d)

-- where the queue is past, so is what it leads
led_past : (k : ℕ) (best : List (ℕ × ℕ)) (queue fresh : List Candidate)
    → All (λ c. Past c.distance k best) queue → ((d : ℕ) → All (IsAsFar d) queue → All (IsAsFar d) fresh)
    → All (λ c. Past c.distance k best) fresh
led_past k best queue fresh past led = λ i e lt.
    let d = (get_or fresh i e).distance in
    ⊎_elim (λ (yes : Past d k best). yes)
    (λ (no : Past d k best → ⊥).
    let beyond : All (IsAsFar (d + 1)) queue = λ j f in_queue.
    ⊎_elim (λ (less : d < (get_or queue j f).distance). omega (arith, less))
    (λ (near : (get_or queue j f).distance ≤ d). absurd
    (no (past_le (get_or queue j f).distance d k best near (past j f in_queue))))
    (cases_lt d (get_or queue j f).distance) in
    absurd (omega (arith, led (d + 1) beyond i e lt)))
    (past_or_not d k best)

-- ---- what is moved into the queue

-- all that waited is in the queue, is still new, or was left out
pub record Settling (k : ℕ) (best : List (ℕ × ℕ)) (before queue fresh : List Candidate) : Type 0 where
  pub gone : List Candidate
  pub perm : IsPermutation before ((queue ++ fresh) ++ gone)
  pub past : All (λ c. Past c.distance k best) gone

last_to_front : (queue rest : List Candidate) (x : Candidate)
    → IsPermutation (queue ++ (rest ++ x ∷ [])) (x ∷ (queue ++ rest))
last_to_front queue rest x =
    subst (λ (cs : List Candidate). IsPermutation cs (x ∷ (queue ++ rest)))
    (append_assoc queue rest (x ∷ [])) (IsPermutation-to_front (queue ++ rest) x)

pub settle_pushed : (k : ℕ) (best : List (ℕ × ℕ)) (before queue fresh next rest : List Candidate)
    (x : Candidate) → Settling k best before queue fresh → fresh ≡ rest ++ x ∷ []
    → IsPermutation (x ∷ queue) next → Settling k best before next rest
settle_pushed k best before queue fresh next rest x s is perm = record {
  gone = s.gone;
  perm =
      let was : IsPermutation (queue ++ fresh) (x ∷ (queue ++ rest)) =
      subst (λ (cs : List Candidate). IsPermutation (queue ++ cs) (x ∷ (queue ++ rest))) (sym is)
      (last_to_front queue rest x) in
      let now : IsPermutation (queue ++ fresh) (next ++ rest) =
      IsPermutation-trans (queue ++ fresh) (x ∷ (queue ++ rest)) (next ++ rest) was
      (IsPermutation-append_left rest (x ∷ queue) next perm) in
      IsPermutation-trans before ((queue ++ fresh) ++ s.gone) ((next ++ rest) ++ s.gone) s.perm
      (IsPermutation-append_left s.gone (queue ++ fresh) (next ++ rest) now);
  past = s.past;
}

pub settle_left : (k : ℕ) (best : List (ℕ × ℕ)) (before queue fresh rest : List Candidate) (x : Candidate)
    → Settling k best before queue fresh → fresh ≡ rest ++ x ∷ [] → Past x.distance k best
    → Settling k best before queue rest
settle_left k best before queue fresh rest x s is past = record {
  gone = x ∷ s.gone;
  perm =
      let was : (queue ++ fresh) ++ s.gone ≡ (queue ++ rest) ++ (x ∷ s.gone) =
      ap (λ (cs : List Candidate). (queue ++ cs) ++ s.gone) is
      ∙ ap (λ (cs : List Candidate). cs ++ s.gone) (sym (append_assoc queue rest (x ∷ [])))
      ∙ append_assoc (queue ++ rest) (x ∷ []) s.gone in
      subst (λ (cs : List Candidate). IsPermutation before cs) was s.perm;
  past = All-cons (λ c. Past c.distance k best) x s.gone past s.past;
}

-- the nearest of the new ones leads the others
pub nearest_leads : (fresh rest queue next : List Candidate) (x : Candidate) (d : ℕ)
    → All (IsAsFar x.distance) fresh → IsPermutation fresh (x ∷ rest) → IsPermutation (x ∷ queue) next
    → All (IsAsFar d) next → All (IsAsFar d) rest
nearest_leads fresh rest queue next x d least out perm far =
    let here : d ≤ x.distance =
    All-head (IsAsFar d) x queue
    (All-permutation (IsAsFar d) next (x ∷ queue) (IsPermutation-sym (x ∷ queue) next perm) far) in
    let others =
    All-tail (IsAsFar x.distance) x rest
    (All-permutation (IsAsFar x.distance) fresh (x ∷ rest) out least) in
    λ i e lt. omega (arith, here, others i e lt)

pub nearest_moved : (fresh rest queue next : List Candidate) (x : Candidate) → IsPermutation fresh (x ∷ rest)
    → IsPermutation (x ∷ queue) next → IsPermutation (queue ++ fresh) (next ++ rest)
nearest_moved fresh rest queue next x out perm =
    IsPermutation-trans (queue ++ fresh) (queue ++ (x ∷ rest)) (next ++ rest)
    (IsPermutation-append_right queue fresh (x ∷ rest) out)
    (IsPermutation-trans (queue ++ (x ∷ rest)) (x ∷ (queue ++ rest)) (next ++ rest)
    (IsPermutation-middle queue x rest) (IsPermutation-append_left rest (x ∷ queue) next perm))

-- children that were appended to what was new, and those that were left out
children_moved : (waiting kept children newest taken gone : List Candidate)
    → IsPermutation children (taken ++ gone) → newest ≡ kept ++ taken
    → IsPermutation ((waiting ++ kept) ++ children) ((waiting ++ newest) ++ gone)
children_moved waiting kept children newest taken gone perm is =
    let same : (waiting ++ kept) ++ (taken ++ gone) ≡ (waiting ++ newest) ++ gone =
    sym (append_assoc (waiting ++ kept) taken gone)
    ∙ ap (λ (cs : List Candidate). cs ++ gone) (append_assoc waiting kept taken)
    ∙ ap (λ (cs : List Candidate). (waiting ++ cs) ++ gone) (sym is) in
    subst (IsPermutation ((waiting ++ kept) ++ children)) same
    (IsPermutation-append_right (waiting ++ kept) children (taken ++ gone) perm)

-- two facts of an answer make a third
pub on_ok_both : {T E P Q R : Type 0} (r : Result T E) → (P → Q → R) → OnOk r P → OnOk r Q → OnOk r R
on_ok_both (Ok x) f p q = f p q
on_ok_both (Err e) f p q = tt

pub on_ok : {T E : Type 0} (P : Type 0) (r : Result T E) → P → OnOk r P
on_ok P (Ok x) p = p
on_ok P (Err e) p = tt

module _ {B A : Type 0} {m : _} where
  -- what a search has done so far
  pub record Searching (dims k : ℕ) (root : Root) (point : List ℤ) (old now : PageCache B A m)
      (queue fresh : List Candidate) (best : List (ℕ × ℕ)) : Type 0 where
    pub asks : AsksUntil old now None
    pub few : length best ≤ k
    pub led : (d : ℕ) → All (IsAsFar d) queue → All (IsAsFar d) fresh
    pub reached : IsHonest old → All (IsReached dims (given old) root.page) (queue ++ fresh)
    pub tree : IsHonest old → (t : Tree) (most : ℕ) → IsTreeAt dims most (pages old) root t
        → Frontier dims (pages old) (far_from dims point) t.row k (queue ++ fresh) best (looks_of old)
        (looks_of now)

  -- memory was refused between two calls
  pub asks_then_memory : {T : Type 0} (old now : PageCache B A m) (f : Fault) (result : Result T Fault)
      → IsErrAnd result (λ e. e ≡ f) → f ≡ fault.Memory → AsksUntil old now None → Asks old now result
  asks_then_memory old now f result is memory a =
      let n = no_call_asks now in
      asks_and_refuses old now now f result is a
      (subst (λ (x : Fault). AsksUntil now now (Some x)) (sym memory)
      (record {
        gate = n.gate;
        map = n.map;
        capacity = n.capacity;
        looks = n.looks;
        touched = n.touched;
        faults = refl;
      }))

  -- the root waits
  pub begins : (dims k : ℕ) (root : Root) (point : List ℤ) (cache : PageCache B A m) (queue : List Candidate)
      → 1 ≤ k
      → IsPermutation (record { distance = 0; page = root.page; level = root.level } ∷ []) queue
      → Searching dims k root point cache cache queue [] []
  begins dims k root point cache queue some perm = record {
    asks = no_call_asks cache;
    few = omega arith;
    led = λ d h. none_as_far d;
    reached =
        λ h. begins_so (IsReached dims (given cache) root.page)
        (record { distance = 0; page = root.page; level = root.level }) queue ([], refl) perm;
    tree = λ h t most is.
        let at = tree_at dims most (pages cache) root t is in
        let nested =
        nested_root dims most point t.row is.shape.below
        (boxes_ordered dims (pages cache) root.page root.level t.row at) in
        subst (λ (cs : List Candidate). Frontier dims (pages cache) (far_from dims point) t.row k cs []
        (looks_of cache) (looks_of cache)) (sym (append-nil queue))
        (reordered (record { distance = 0; page = root.page; level = root.level } ∷ []) queue
        (record {
          pending = record { distance = 0; page = root.page; level = root.level; row = t.row } ∷ [];
          gone = [];
          last = 0;
          seen = [];
          same = refl;
          front = front_begins dims (pages cache) (far_from dims point) t.row k root.page root.level
              (looks_of cache) some at nested;
          best_is = sym (take_nil k);
        }) perm);
  }

  module _ {dims k : ℕ} {root : Root} {point : List ℤ} {old now : PageCache B A m}
      {queue fresh : List Candidate} {best : List (ℕ × ℕ)}
      (so_far : Searching dims k root point old now queue fresh best) where
    -- nothing is left that is near enough
    pub finished : 1 ≤ k → All (λ c. Past c.distance k best) queue → IsHonest old → (t : Tree) (most : ℕ)
        → IsTreeAt dims most (pages old) root t → IsAnswer dims k point t best (looks_of old) (looks_of now)
    finished some past h t most tree =
        let all =
        All-append (λ c. Past c.distance k best) queue fresh past
        (led_past k best queue fresh past so_far.led) in
        let f = left_out [] (queue ++ fresh) (so_far.tree h t most tree) all in
        let none = empty_queue f.pending f.same in
        let front : Front dims (pages old) (far_from dims point) t.row k [] f.gone f.last f.seen
        (looks_of old) (looks_of now) =
        subst (λ (ps : List Pending). Front dims (pages old) (far_from dims point) t.row k ps f.gone
        f.last f.seen (looks_of old) (looks_of now)) none f.front in
        answer_of dims k most point t best (looks_of old) (looks_of now) (loose dims most t tree.shape)
        (f.best_is ∙ answered front)
        (looked_to_end dims (pages old) point t.row (looks_of old) (looks_of now) k f.last f.gone f.seen some
        front (looks_are_few now)
        ∙ ap (λ (rs : List (ℕ × ℕ)). counted (looks_of old)
        (1 + reached (is_searched dims k point rs) t.row)) (sym f.best_is))

    module _ (x : Candidate) (rest : List Candidate) (perm : IsPermutation queue (x ∷ rest))
        (least : All (IsAsFar x.distance) rest) where
      rest_as_far : All (IsAsFar x.distance) (rest ++ fresh)
      rest_as_far =
          let all : All (IsAsFar x.distance) queue =
          All-permutation (IsAsFar x.distance) (x ∷ rest) queue (IsPermutation-sym queue (x ∷ rest) perm)
          (All-cons (IsAsFar x.distance) x rest (omega arith) least) in
          All-append (IsAsFar x.distance) rest fresh least (so_far.led x.distance all)

      taken : IsHonest old → (t : Tree) (most : ℕ) → IsTreeAt dims most (pages old) root t
          → Frontier dims (pages old) (far_from dims point) t.row k (x ∷ (rest ++ fresh)) best (looks_of old)
          (looks_of now)
      taken h t most tree =
          reordered (queue ++ fresh) (x ∷ (rest ++ fresh)) (so_far.tree h t most tree)
          (IsPermutation-append_left fresh queue (x ∷ rest) perm)

      -- a walk comes to the node that was taken
      pub first_reached : IsHonest old → IsReached dims (given old) root.page x
      first_reached h =
          of_first (IsReached dims (given old) root.page) queue fresh rest x perm (so_far.reached h)

      module _ (within : Past x.distance k best → ⊥) where
        -- the node that was taken stands in the pages
        pub node_there : IsHonest old → (t : Tree) (most : ℕ) → IsTreeAt dims most (pages old) root t
            → (c : NodeContent) × (node_in dims (pages now x.page) ≡ Some c) × (c.level ≡ x.level)
        node_there h t most tree =
            let o = opened x (rest ++ fresh) (taken h t most tree) rest_as_far within in (
              record { level = x.level; entries = row_items o.row },
              ap (node_in dims) (so_far.asks.map.pages_stay h x.page) ∙ o.there.node,
              refl,
            )

        -- a leaf was looked into, and what was new was moved into the queue
        pub leaf_on : x.level ≡ 0
            → (next : PageCache B A m) (better : List (ℕ × ℕ)) (waiting gone : List Candidate)
            → AsksUntil now next None → looks_of next ≡ one_more (looks_of now) → length better ≤ k
            → (IsHonest now → (c : NodeContent) → node_in dims (pages now x.page) ≡ Some c → c.level ≡ 0
            → better ≡ offered k best (map (row_at (far_from dims point)) c.entries))
            → IsPermutation (rest ++ fresh) (waiting ++ gone) → All (λ c. Past c.distance k better) gone
            → Searching dims k root point old next waiting [] better
        leaf_on leaf next better waiting gone asks looked few entries moved past = record {
          asks = asks_in_turn old now next None so_far.asks asks;
          few = few;
          led = λ d h. none_as_far d;
          reached = λ h.
              let all =
              of_settled (IsReached dims (given old) root.page) queue fresh rest x perm (so_far.reached h)
              waiting gone moved in
              subst (λ (cs : List Candidate). All (IsReached dims (given old) root.page) cs)
              (sym (append-nil waiting)) all;
          tree = λ h t most tree.
              let o = opened x (rest ++ fresh) (taken h t most tree) rest_as_far within in
              let content : NodeContent = record { level = x.level; entries = row_items o.row } in
              let is =
              entries (so_far.asks.gate.honest.0 h) content
              (ap (node_in dims) (so_far.asks.map.pages_stay h x.page) ∙ o.there.node) leaf in
              let f : Frontier dims (pages old) (far_from dims point) t.row k (rest ++ fresh) better
              (looks_of old) (looks_of next) =
              subst (λ (n : ℕ). Frontier dims (pages old) (far_from dims point) t.row k (rest ++ fresh)
              better (looks_of old) n) (sym looked)
              (subst (λ (b : List (ℕ × ℕ)). Frontier dims (pages old) (far_from dims point) t.row k
              (rest ++ fresh) b (looks_of old) (one_more (looks_of now))) (sym is) (o.leaf leaf)) in
              subst (λ (cs : List Candidate). Frontier dims (pages old) (far_from dims point) t.row k cs
              better (looks_of old) (looks_of next)) (sym (append-nil waiting))
              (left_out waiting gone (reordered (rest ++ fresh) (waiting ++ gone) f moved) past);
        }

        -- a node above the leaves was looked into, after some of what was new was moved into the queue
        pub node_on : 0 < x.level
            → (next : PageCache B A m) (waiting kept gone newest later newer : List Candidate)
            → AsksUntil now next None → looks_of next ≡ one_more (looks_of now)
            → IsPermutation (rest ++ fresh) ((waiting ++ kept) ++ gone)
            → All (λ c. Past c.distance k best) gone
            → (IsHonest now → (c : NodeContent) → node_in dims (pages now x.page) ≡ Some c
            → c.level ≡ x.level → Appends k best (map (candidate_at (far_from dims point) x.level) c.entries)
            kept newest)
            → (IsHonest now → (c : NodeContent) × (node_in dims (given now x.page) ≡ Some c)
            × (children : List Candidate) × (newest ≡ kept ++ children)
            × All (λ child. Names c child.page) children)
            → IsPermutation (waiting ++ newest) (later ++ newer)
            → ((d : ℕ) → All (IsAsFar d) later → All (IsAsFar d) newer)
            → Searching dims k root point old next later newer best
        node_on high next waiting kept gone newest later newer asks looked moved past entries named shared
            led = record {
              asks = asks_in_turn old now next None so_far.asks asks;
              few = so_far.few;
              led = led;
              reached = λ h.
                  let P = IsReached dims (given old) root.page in
                  let node = named (so_far.asks.gate.honest.0 h) in
                  let there = ap (node_in dims) (sym (so_far.asks.map.given_stay h x.page)) ∙ node.1 in
                  of_shared P queue fresh rest x perm (so_far.reached h) waiting kept gone newest node.2
                  later newer moved node.3
                  (children_reached dims (given old) root.page x node.0 node.2 (first_reached h) there node.4)
                  shared;
              tree = λ h t most tree.
                  let both = waiting ++ kept in
                  let near : Frontier dims (pages old) (far_from dims point) t.row k (x ∷ both) best
                  (looks_of old) (looks_of now) =
                  left_out (x ∷ both) gone
                  (reordered (x ∷ (rest ++ fresh)) (x ∷ (both ++ gone)) (taken h t most tree)
                  (IsPermutation-cons x (rest ++ fresh) (both ++ gone) moved)) past in
                  let as_far : All (IsAsFar x.distance) both =
                  all_front (IsAsFar x.distance) both gone
                  (All-permutation (IsAsFar x.distance) (rest ++ fresh) (both ++ gone) moved rest_as_far) in
                  let o = opened x both near as_far within in
                  let content : NodeContent = record { level = x.level; entries = row_items o.row } in
                  let took =
                  entries (so_far.asks.gate.honest.0 h) content
                  (ap (node_in dims) (so_far.asks.map.pages_stay h x.page) ∙ o.there.node) refl in
                  let children = map (candidate_at (far_from dims point) x.level) (row_items o.row) in
                  let all : Frontier dims (pages old) (far_from dims point) t.row k (both ++ children) best
                  (looks_of old) (looks_of next) =
                  subst (λ (n : ℕ). Frontier dims (pages old) (far_from dims point) t.row k
                  (both ++ children) best (looks_of old) n) (sym looked) (o.node high) in
                  let f : Frontier dims (pages old) (far_from dims point) t.row k (waiting ++ newest) best
                  (looks_of old) (looks_of next) =
                  left_out (waiting ++ newest) took.gone
                  (reordered (both ++ children) ((waiting ++ newest) ++ took.gone) all
                  (children_moved waiting kept children newest took.kept took.gone took.all took.is))
                  took.past in
                  reordered (waiting ++ newest) (later ++ newer) f shared;
            }
