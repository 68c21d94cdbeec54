-- One placing after the other.
use Rattle.std.proofs.Common.{Option, Some, None, IsSome, IfSome, ◌≡◌, ◌∙◌, ℕ, zero, suc, ◌+◌, ◌-◌, ◌<◌, ◌≤◌}
use Rattle.std.proofs.Common.{Bool, cond, eqb, List, [], ◌∷◌, ◌++◌, map, reverse, refl, sym, ap, subst}
use Rattle.std.proofs.Common.{⊎_elim, arith, Result, Ok, Err, IfOk}
use Rattle.std.proofs.lemmas.Bool.{cases_eq}
use Rattle.std.proofs.lemmas.List.{map-append, reverse-append}
use Rattle.std.specs.Option.{option_map}
use Rattle.box_math.specs.Bounds.{Bounds}
use Rattle.page_file.specs.declared.fault.Fault.{Fault}
use Rattle.tree_node.specs.declared.node.Entry.{Entry}
use Rattle.tree_node.specs.declared.node.Root.{Root}
use Rattle.tree_node.specs.Nodes.{Item, item_of}
use Rattle.tree_node.specs.Trees.{Row, end, more, Branch, Tree, row_items, occurs, occurs_in}
use Rattle.tree_node.specs.Rows.{row_of, item_in, occurs_on, Waiter, occurs_waiting}
use Rattle.tree_node.specs.Boxes.{least_box}
use Rattle.tree_node.proofs.RowLemmas.{occurs_here}
use Rattle.tree_node.proofs.PositionLemmas.{total-append}
use Rattle.node_page.specs.Standing.{PageMap, HasNode, RowStands}
use Rattle.node_page.proofs.StandingLemmas.{page_of_node, node_stays, row_stays}
use Rattle.node_page.specs.Parts.{Moves}
use Rattle.node_page.specs.Changes.{AllWait}
use Rattle.node_page.proofs.PartLemmas.{there_not_missing, none_or_some, moves_same, moves_in_turn}
use Rattle.reinsert.specs.declared.settled.Settled.{Settled}
use Rattle.reinsert.specs.declared.waiting.Wait.{Wait}
use Rattle.reinsert.specs.Called.{called_from}
use Rattle.reinsert.specs.Children.{occurs_at, Child, boxed}
use Rattle.reinsert.specs.Placing.{State, Placing, IsRootAfter}
use Rattle.reinsert.specs.Insertion.{Placings}
use Rattle.reinsert.specs.Placed.{Held, held_of, held_in, Holds, BesideStands, occurs_beside, occurs_after}
use Rattle.reinsert.specs.Placed.{CanPlace, PlacesTo, ComesIn}
use Rattle.reinsert.specs.Inserted.{IsRootOf, CanInsert, InsertsTo, IsAt, StepsTo, occurs_in_state}
use Rattle.reinsert.proofs.StandLemmas.{zero_there, one_at_most, moves_with, rest_same, rest_once}
use Rattle.reinsert.proofs.SettledLemmas.{AllWait_frame, of_sum, hit_live, waiting_live, outcome_live}
use Rattle.reinsert.proofs.PlaceLemmas.{AllWait-append}
use Rattle.reinsert.proofs.FromLemmas.{at_begin, insertion_from}

-- ---- the placings so far

-- a state was reached, and the code holds it
pub record Reached {D : ℕ} (dims most : ℕ) (elsewhere : ℕ → ℕ) (m m' : PageMap) (s : State) (root : Root)
    (waits : List (Wait D)) (called : List Bool) : Type 0 where
  pub count : ℕ
  pub last : State
  pub run : Placings dims most elsewhere count s last
  pub isat : IsAt dims m' root waits called elsewhere last
  pub moves : Moves m m' (occurs_in_state s) (occurs_in_state last)

one_more_placing : (count dims most : ℕ) (elsewhere : ℕ → ℕ) (a b c : State)
    → Placings dims most elsewhere count a b → Placing dims most elsewhere b c
    → Placings dims most elsewhere (suc count) a c
one_more_placing zero dims most elsewhere a b c h k =
    (c, subst (λ x. Placing dims most elsewhere x c) h k, refl)
one_more_placing (suc count) dims most elsewhere a b c h k =
    (h.0, h.1, one_more_placing count dims most elsewhere h.0 b c h.2 k)

-- the first placing
pub reached_first : {D : ℕ} (dims most : ℕ) (elsewhere : ℕ → ℕ) (m m' : PageMap) (s : State) (root : Root)
    (waits : List (Wait D)) (called : List Bool) → StepsTo dims most m m' elsewhere s root waits called
    → Reached dims most elsewhere m m' s root waits called
reached_first dims most elsewhere m m' s root waits called step = record {
  count = 1;
  last = step.next;
  run = (step.next, step.placing, refl);
  isat = step.isat;
  moves = step.moves;
}

-- and another one
pub reached_more : {D : ℕ} (dims most : ℕ) (elsewhere : ℕ → ℕ) (m m1 m2 : PageMap) (s : State)
    (root root' : Root) (waits waits' : List (Wait D)) (called called' : List Bool)
    → (h : Reached dims most elsewhere m m1 s root waits called)
    → StepsTo dims most m1 m2 elsewhere h.last root' waits' called'
    → Reached dims most elsewhere m m2 s root' waits' called'
reached_more dims most elsewhere m m1 m2 s root root' waits waits' called called' h step = record {
  count = suc h.count;
  last = step.next;
  run = one_more_placing h.count dims most elsewhere s h.last step.next h.run step.placing;
  isat = step.isat;
  moves = moves_in_turn m m1 m2 _ _ _ h.moves step.moves;
}

some_last : {A : Type 0} (xs : List A) (x : A) → [] ≡ xs ++ x ∷ [] → ⊥
some_last [] x e = absurd (cc)
some_last (y ∷ ys) x e = absurd (cc)

nothing_left : (ws : List Waiter) → [] ≡ reverse (map held_in ws) → ws ≡ []
nothing_left [] h = refl
nothing_left (w ∷ ws) h =
    absurd (some_last (reverse (map held_in ws)) (held_in w)
    (h ∙ reverse-append (held_in w ∷ []) (map held_in ws)))

-- where nothing waits, the entry is inserted
pub inserted_end : {D : ℕ} (dims most top level : ℕ) (elsewhere : ℕ → ℕ) (m m' : PageMap) (t : Tree)
    (branch : Branch) (root : Root) (waits : List (Wait D)) (called : List Bool) → top ≤ 41
    → t.level ≡ top → Reached dims most elsewhere m m' (at_begin top t branch level) root waits called
    → waits ≡ [] → InsertsTo dims most m m' level t branch elsewhere root
inserted_end dims most top level elsewhere m m' t branch root waits called low high h none =
    let s : State = at_begin top t branch level in
    let left : h.last.waiting ≡ [] =
    nothing_left h.last.waiting (sym (ap (map held_of) none) ∙ h.isat.holds) in
    let last : h.last ≡ record { tree = h.last.tree; waiting = []; called = h.last.called } =
    ap (λ ws. let x : State = record { tree = h.last.tree; waiting = ws; called = h.last.called } in x)
    left in
    let counts : (n : ℕ)
    → occurs_in_state h.last n ≡ occurs_in n h.last.tree =
    λ n. omega (arith, ap (occurs_waiting n) left) in
    record {
      new = h.last.tree;
      at = h.isat.at;
      stands =
          record { root = h.isat.there; below = h.isat.below; distinct = λ n. omega (arith, h.isat.apart n) };
      insertion =
          insertion_from dims most top level elsewhere branch t h.last.tree h.last.called h.count low high
          (subst (λ x. Placings dims most elsewhere h.count s x) last h.run);
      moves = moves_same m m' _ _ _ _ (λ n. omega arith) counts h.moves;
    }

-- the entry alone waits
pub begun : {D : ℕ} (dims top : ℕ) (m : PageMap) (root : Root) (first : Wait D) (t : Tree) (branch : Branch)
    (elsewhere : ℕ → ℕ) → CanInsert dims m root (item_of first.entry) first.level t branch elsewhere
    → IsAt dims m root (first ∷ []) (called_from top) elsewhere (at_begin top t branch first.level)
begun dims top m root first t branch elsewhere can = record {
  at = can.at;
  there = can.stands.root;
  below = can.stands.below;
  far = (can.entry_stands, tt);
  holds = ap (λ (x : Item). let h : Held = record { item = x; level = first.level } in h ∷ [])
      (sym can.entry);
  calls = refl;
  apart = λ n. omega (arith, can.apart n);
  live = can.live;
}

-- ---- one placing

none_beside : (dims : ℕ) (o : Option Child) → None ≡ option_map (λ c. item_in (boxed dims c)) o → o ≡ None
none_beside dims None h = refl
none_beside dims (Some c) h = absurd (cc)

some_beside : (dims : ℕ) (b : Item) (o : Option Child) → Some b ≡ option_map (λ c. item_in (boxed dims c)) o
    → (c : Child) × (o ≡ Some c) × (b ≡ item_in (boxed dims c))
some_beside dims b None h = absurd (cc)
some_beside dims b (Some c) h = (c, refl, cc)

-- what the code holds after a placing
holds_after : {D : ℕ} (waits waits' : List (Wait D)) (rest far : List Waiter) → Holds waits rest
    → map held_of waits' ≡ map held_of waits ++ reverse (map held_in far) → Holds waits' (far ++ rest)
holds_after waits waits' rest far before after =
    after ∙ ap (λ hs. hs ++ reverse (map held_in far)) before
    ∙ sym (ap reverse (map-append held_in far rest) ∙ reverse-append (map held_in far) (map held_in rest))

-- ---- the first that waits

snoc_same : {A : Type 0} (xs ys : List A) (x y : A) → xs ++ x ∷ [] ≡ ys ++ y ∷ [] → (xs ≡ ys) × (x ≡ y)
snoc_same [] [] x y h = (refl, cc)
snoc_same [] (b ∷ ys) x y h = let rest : [] ≡ ys ++ y ∷ [] = cc in absurd (some_last ys y rest)
snoc_same (a ∷ xs) [] x y h = let rest : [] ≡ xs ++ x ∷ [] = cc in absurd (some_last xs x rest)
snoc_same (a ∷ xs) (b ∷ ys) x y h =
    let heads : a ≡ b = cc in
    let tails : xs ++ x ∷ [] ≡ ys ++ y ∷ [] = cc in
    let parts = snoc_same xs ys x y tails in
    let lists = parts.0 in (cc, parts.1)

-- what waits is one entry, which is placed now, and others
pub record Ready {D : ℕ} (waits : List (Wait D)) (first : Wait D) (all : List Waiter) : Type 0 where
  pub w : Waiter
  pub ws : List Waiter
  pub all_is : all ≡ w ∷ ws
  pub is : held_of first ≡ held_in w
  pub held : Holds waits ws

pub ready : {D : ℕ} (waits : List (Wait D)) (first : Wait D) (all : List Waiter)
    → Holds (waits ++ first ∷ []) all → Ready waits first all
ready waits first [] h =
    absurd (some_last (map held_of waits) (held_of first)
    (sym (sym (map-append held_of waits (first ∷ [])) ∙ h)))
ready waits first (w ∷ ws) h =
    let same = snoc_same (map held_of waits) (reverse (map held_in ws)) (held_of first) (held_in w)
    (sym (map-append held_of waits (first ∷ [])) ∙ h ∙ reverse-append (held_in w ∷ []) (map held_in ws)) in
    record { w = w; ws = ws; all_is = refl; is = same.1; held = same.0 }

module _ {D : ℕ} (most : ℕ) (elsewhere : ℕ → ℕ) (m m1 : PageMap) (t : Tree) (w : Waiter) (ws : List Waiter)
    (cs : List Bool) (settled : Settled D) (waits waits1 : List (Wait D)) (called' : List Bool)
    (there : HasNode D m t.page t.level t.row) (below : RowStands D m t.level t.row)
    (w_stands : RowStands D m w.level (more w.branch end)) (ws_stand : AllWait D m ws)
    (apart0 : (n : ℕ) → occurs_in n t + (occurs_on n w.branch + occurs_waiting n ws) + elsewhere n ≤ 1)
    (live0 : (n : ℕ) → 0 < elsewhere n → IsSome (m n)) (fits : w.level ≤ t.level)
    (held : Holds waits ws) where
  abbrev before : State
  before = record { tree = t; waiting = w ∷ ws; called = cs }

  can_place : CanPlace D m t.page t.level w.level t.row w.branch
  can_place =
      record { there = there; below = below; entry = w_stands; distinct = λ n. omega (arith, apart0 n) }

  module _
      (done : PlacesTo D most t.level t.level w.level cs w.branch t.row m m1 t.page settled waits waits1
      called') where
    -- what else waits, and what is elsewhere
    abbrev others : ℕ → ℕ
    others n = occurs_waiting n ws + elsewhere n

    others_live : (n : ℕ) → 0 < others n → IsSome (m n)
    others_live n p =
        of_sum (IsSome (m n)) (occurs_waiting n ws) (elsewhere n) p (waiting_live D m ws n ws_stand) (live0 n)

    apart : (n : ℕ) → (occurs_at t.page n t.row + occurs_on n w.branch) + others n ≤ 1
    apart n = omega (arith, apart0 n)

    same : (n : ℕ) → 0 < others n → m1 n ≡ m n
    same = rest_same m m1 _ _ others done.moves apart others_live

    once : (n : ℕ) → occurs_after t.page done.outcome n + others n ≤ 1
    once = rest_once m m1 _ _ others done.moves apart others_live

    waiting_stand : AllWait D m1 (done.outcome.far ++ ws)
    waiting_stand =
        AllWait-append D m1 done.outcome.far ws done.stands.far
        (AllWait_frame D m m1 ws (λ n p. same n (omega (arith, p))) ws_stand)

    far_counts : (n : ℕ)
        → occurs_waiting n (done.outcome.far ++ ws) ≡ occurs_waiting n done.outcome.far + occurs_waiting n ws
    far_counts n = total-append (λ (x : Waiter). occurs_on n x.branch) done.outcome.far ws

    live1 : (n : ℕ) → 0 < elsewhere n → IsSome (m1 n)
    live1 n p = subst IsSome (sym (same n (omega (arith, p)))) (live0 n p)

    first_moves : Moves m m1 (occurs_in_state before)
        (λ n. occurs_after t.page done.outcome n + occurs_waiting n ws)
    first_moves = moves_same m m1 _ _ _ _ (λ n. omega arith) (λ n. refl)
        (moves_with m m1 _ _ (λ n. occurs_waiting n ws) done.moves (λ n. omega (arith, apart n))
        (λ n p. others_live n (omega (arith, p))))

    step_none : (root : Root) → IsRootOf root t → settled.beside ≡ None
        → StepsTo D most m m1 elsewhere before root waits1 called'
    step_none root at alone =
        let none : done.outcome.beside ≡ None =
        none_beside D done.outcome.beside (sym (ap (option_map item_of) alone) ∙ done.shows.beside) in
        let counts : (n : ℕ)
        → occurs_after t.page done.outcome n + occurs_waiting n ws ≡ occurs_at t.page n
        done.outcome.row + occurs_waiting n (done.outcome.far ++ ws) =
        λ n. omega (arith, far_counts n, ap (occurs_beside n) none) in
        let next_once : (n : ℕ)
        → occurs_at t.page n done.outcome.row + occurs_waiting n (done.outcome.far ++ ws) + elsewhere
        n ≤ 1 = λ n. omega (arith, counts n, once n) in
        record {
          next = record {
            tree = record { page = t.page; level = t.level; row = done.outcome.row };
            waiting = done.outcome.far ++ ws;
            called = done.outcome.called;
          };
          placing = record {
            first = w;
            rest = ws;
            waits = refl;
            fits = fits;
            outcome = done.outcome;
            places = done.places;
            root = rw none refl;
            waiting = refl;
            called = refl;
            distinct = λ n. omega (arith, next_once n);
          };
          isat = record {
            at = record { page = at.page; level = at.level };
            there = done.stands.there;
            below = done.stands.below;
            far = waiting_stand;
            holds = holds_after waits waits1 ws done.outcome.far held done.shows.far;
            calls = done.shows.calls;
            apart = λ n. omega (arith, next_once n);
            live = live1;
          };
          moves = moves_same m m1 _ _ _ _ (λ n. refl) counts first_moves;
        }

    abbrev after_first : ℕ → ℕ
    after_first n = occurs_after t.page done.outcome n + others n

    after_first_live : (n : ℕ) → 0 < after_first n → IsSome (m1 n)
    after_first_live n some =
        of_sum (IsSome (m1 n)) (occurs_after t.page done.outcome n) (others n) some
        (outcome_live D m1 t.page t.level done.outcome n done.stands)
        (λ p. subst IsSome (sym (same n p)) (others_live n p))

    module _ (m2 : PageMap) (root' : Root) (b : Item) (c : Child) (is_beside : done.outcome.beside ≡ Some c)
        (b_is : b ≡ item_in (boxed D c)) (is_level : t.level + 1 ≡ root'.level)
        (grown : ComesIn D m1 m2 root'.page
        (record {
          level = t.level + 1;
          entries = record { bounds = settled.bounds; reference = t.page; tag = 0 } ∷ b ∷ [];
        })) where
      abbrev over : Row
      over = row_of (boxed D (record { page = t.page; row = done.outcome.row }) ∷ boxed D c ∷ [])

      unused : after_first root'.page ≡ 0
      unused =
          ⊎_elim (λ none. none)
          (λ some. absurd (there_not_missing (m1 root'.page) (after_first_live root'.page some) grown.free))
          (none_or_some (after_first root'.page))

      stays : (n : ℕ) → 0 < after_first n → m2 n ≡ m1 n
      stays n some =
          grown.others n (λ is. absurd (omega (arith, some, subst (λ k. after_first k ≡ 0) (sym is) unused)))

      counted : (n : ℕ) → occurs_beside n done.outcome.beside ≡ occurs_at c.page n c.row
      counted n = ap (occurs_beside n) is_beside

      beside_there : HasNode D m1 c.page t.level c.row × RowStands D m1 t.level c.row
      beside_there = subst (λ o. BesideStands D m1 t.level o) is_beside done.stands.beside

      over_stands : RowStands D m2 (t.level + 1) over
      over_stands =
          let down : t.level + 1 - 1 ≡ t.level = omega arith in
          rw down (
            omega arith,
            node_stays D m1 m2 t.page t.level done.outcome.row
                (stays t.page (omega (arith, occurs_here t.page))) done.stands.there,
            row_stays D m1 m2 t.level done.outcome.row (λ n p. stays n (omega (arith, p))) done.stands.below,
            (
              omega arith,
              node_stays D m1 m2 c.page t.level c.row
                  (stays c.page (omega (arith, counted c.page, occurs_here c.page))) beside_there.0,
              row_stays D m1 m2 t.level c.row (λ n p. stays n (omega (arith, p, counted n))) beside_there.1,
              tt,
            ),
          )

      counts : (n : ℕ)
          → cond (eqb root'.page n) 1
          0 + (occurs_after t.page done.outcome n + occurs_waiting n ws)
          ≡ (cond (eqb root'.page n) 1 0 + occurs n over) + occurs_waiting n (done.outcome.far ++ ws)
      counts n = omega (arith, far_counts n, counted n)

      new_once : (n : ℕ) → cond (eqb root'.page n) 1 0 + after_first n ≤ 1
      new_once n =
          ⊎_elim (λ is. omega (arith, one_at_most root'.page n, subst (λ k. after_first k ≡ 0) is unused))
          (λ differs. omega (arith, zero_there root'.page n differs, once n)) (cases_eq root'.page n)

      next_once : (n : ℕ)
          → (cond (eqb root'.page n) 1 0 + occurs n over) + occurs_waiting n
          (done.outcome.far ++ ws) + elsewhere n ≤ 1
      next_once n = omega (arith, counts n, new_once n)

      grown_moves : Moves m1 m2 (λ n. occurs_after t.page done.outcome n + occurs_waiting n ws)
          (λ n. cond (eqb root'.page n) 1 0 + (occurs_after t.page done.outcome n + occurs_waiting n ws))
      grown_moves = record {
        outside =
            λ n none none'. grown.others n
            (λ is. absurd
            (omega (
              arith,
              none',
              occurs_here root'.page,
              subst (λ k. ◌≡◌ {A = ℕ} (cond (eqb root'.page k) 1 0) 1) (sym is) (occurs_here root'.page),
            )));
        came = λ n none some. ⊎_elim (λ is. ap m1 (sym is) ∙ grown.free)
            (λ differs. absurd (omega (arith, none, some, zero_there root'.page n differs)))
            (cases_eq root'.page n);
        went = λ n some none. absurd (omega (arith, some, none));
        live = λ n some. of_sum (IsSome (m2 n)) (cond (eqb root'.page n) 1 0)
            (occurs_after t.page done.outcome n + occurs_waiting n ws) some
            (hit_live m2 root'.page n (page_of_node D (m2 root'.page) _ grown.there))
            (λ p. subst IsSome (sym (stays n (omega (arith, p)))) (after_first_live n (omega (arith, p))));
        once = λ n. omega (arith, new_once n);
      }

      over_there : HasNode D m2 root'.page (t.level + 1) over
      over_there = grown.there
          ∙ ap (λ (x : Bounds). Some
          (record {
            level = t.level + 1;
            entries = record { bounds = x; reference = t.page; tag = 0 } ∷ b ∷ [];
          })) done.shows.bounds
          ∙ ap (λ (x : Item). Some
          (record {
            level = t.level + 1;
            entries =
                record { bounds = least_box D (row_items done.outcome.row); reference = t.page; tag = 0 } ∷ x
                ∷ [];
          })) b_is

      step_some : StepsTo D most m m2 elsewhere before root' waits1 called'
      step_some = record {
        next = record {
          tree = record { page = root'.page; level = t.level + 1; row = over };
          waiting = done.outcome.far ++ ws;
          called = done.outcome.called;
        };
        placing = record {
          first = w;
          rest = ws;
          waits = refl;
          fits = fits;
          outcome = done.outcome;
          places = done.places;
          root = subst
              (λ o. IsRootAfter D t done.outcome.row o
              (record { page = root'.page; level = t.level + 1; row = over })) (sym is_beside)
              (root'.page, refl);
          waiting = refl;
          called = refl;
          distinct = λ n. omega (arith, next_once n);
        };
        isat = record {
          at = record { page = refl; level = is_level };
          there = over_there;
          below = over_stands;
          far = AllWait_frame D m1 m2 (done.outcome.far ++ ws)
              (λ n p. stays n (omega (arith, far_counts n, p))) waiting_stand;
          holds = holds_after waits waits1 ws done.outcome.far held done.shows.far;
          calls = done.shows.calls;
          apart = λ n. omega (arith, next_once n);
          live = λ n p. subst IsSome (sym (stays n (omega (arith, p)))) (live1 n p);
        };
        moves = moves_in_turn m m1 m2 _ _ _ first_moves
            (moves_same m1 m2 _ _ _ _ (λ n. refl) counts grown_moves);
      }

-- ---- from what the calls ensure

module _ {D : ℕ} (X : Type 0) (most : ℕ) (elsewhere : ℕ → ℕ) (m m1 : PageMap) (root : Root)
    (waits waits1 : List (Wait D)) (first : Wait D) (called called' : List Bool) (s : State)
    (settled : Settled D)
    (at : IsAt D m root (waits ++ first ∷ []) called elsewhere s) (low : first.level ≤ root.level)
    (callee : (row : Row) (branch : Branch) → item_in branch ≡ item_of first.entry
    → CanPlace D m root.page root.level first.level row branch
    → X × PlacesTo D most root.level root.level first.level called branch row m m1 root.page settled waits
    waits1 called') where
  r : Ready waits first s.waiting
  r = ready waits first s.waiting at.holds

  abbrev Calls : ℕ → ℕ → ℕ → List Bool → Type 0
  Calls page level target cs = (row : Row) (branch : Branch) → item_in branch ≡ item_of first.entry
      → CanPlace D m page level target row branch
      → X × PlacesTo D most level level target cs branch row m m1 page settled waits waits1 called'

  level_is : r.w.level ≡ first.level
  level_is = ap (λ (h : Held). h.level) (sym r.is)

  callee_here : Calls s.tree.page s.tree.level r.w.level s.called
  callee_here = subst (λ cs. Calls s.tree.page s.tree.level r.w.level cs) at.calls
      (subst (λ l. Calls s.tree.page s.tree.level l called) (sym level_is)
      (subst (λ l. Calls s.tree.page l first.level called) (sym at.at.level)
      (subst (λ p. Calls p root.level first.level called) (sym at.at.page) callee)))

  stand : AllWait D m (r.w ∷ r.ws)
  stand = subst (λ ws. AllWait D m ws) r.all_is at.far

  apart_here : (n : ℕ)
      → occurs_in n s.tree + (occurs_on n r.w.branch + occurs_waiting n r.ws) + elsewhere n ≤ 1
  apart_here n =
      subst (λ ws. occurs_in n s.tree + occurs_waiting n ws + elsewhere n ≤ 1) r.all_is (at.apart n)

  fits_here : r.w.level ≤ s.tree.level
  fits_here = omega (arith, level_is, low, at.at.level)

  got : X × PlacesTo D most s.tree.level s.tree.level r.w.level s.called r.w.branch s.tree.row m m1
      s.tree.page settled waits waits1 called'
  got = callee_here s.tree.row r.w.branch (ap (λ (h : Held). h.item) (sym r.is))
      (can_place most elsewhere m m1 s.tree r.w r.ws s.called settled waits waits1 called' at.there at.below
      stand.0 stand.1 apart_here at.live fits_here r.held)

  abbrev Steps : PageMap → Root → List Waiter → Type 0
  Steps m2 root' ws =
      StepsTo D most m m2 elsewhere (record { tree = s.tree; waiting = ws; called = s.called }) root' waits1
      called'

  pub first_alone : settled.beside ≡ None → X × StepsTo D most m m1 elsewhere s root waits1 called'
  first_alone alone = (
    got.0,
    subst (λ ws. Steps m1 root ws) (sym r.all_is)
        (step_none most elsewhere m m1 s.tree r.w r.ws s.called settled waits waits1 called' at.there
        at.below stand.0 stand.1 apart_here at.live fits_here r.held got.1 root at.at alone),
  )

  first_beside : (Y : Type 0) (m2 : PageMap) (root' : Root) (beside : Entry D)
      → settled.beside ≡ Some beside → root'.level ≡ root.level + 1
      → (X → Y
      × ComesIn D m1 m2 root'.page
      (record {
        level = root.level + 1;
        entries = record { bounds = settled.bounds; reference = root.page; tag = 0 } ∷ item_of beside ∷ [];
      }))
      → Y × StepsTo D most m m2 elsewhere s root' waits1 called'
  first_beside Y m2 root' beside is level grow =
      let c = some_beside D (item_of beside) got.1.outcome.beside
      (sym (ap (option_map item_of) is) ∙ got.1.shows.beside) in
      let grown = grow got.0 in
      let here =
      subst (λ p. ComesIn D m1 m2 root'.page
      (record {
        level = s.tree.level + 1;
        entries = record { bounds = settled.bounds; reference = p; tag = 0 } ∷ item_of beside ∷ [];
      }))
      (sym at.at.page)
      (subst (λ l. ComesIn D m1 m2 root'.page
      (record {
        level = l + 1;
        entries =
            record { bounds = settled.bounds; reference = root.page; tag = 0 } ∷ item_of beside ∷ [];
      }))
      (sym at.at.level) grown.1) in (
        grown.0,
        subst (λ ws. Steps m2 root' ws) (sym r.all_is)
            (step_some most elsewhere m m1 s.tree r.w r.ws s.called settled waits waits1 called' at.there
            at.below stand.0 stand.1 apart_here at.live fits_here r.held got.1
            m2 root' (item_of beside) c.0 c.1 c.2 (ap (λ l. l + 1) at.at.level ∙ sym level) here),
      )

  pub first_grown : (Y : Type 0) (m2 : PageMap) (grown : Result Root Fault) (beside : Entry D)
      → settled.beside ≡ Some beside
      → IfOk grown (λ root'. (root'.level ≡ root.level + 1) × (root'.level ≤ 40))
      → (X → IfOk grown (λ root'. Y
      × ComesIn D m1 m2 root'.page
      (record {
        level = root.level + 1;
        entries = record { bounds = settled.bounds; reference = root.page; tag = 0 } ∷ item_of beside ∷ [];
      })))
      → IfOk grown (λ root'. Y × StepsTo D most m m2 elsewhere s root' waits1 called')
  first_grown Y m2 (Ok root') beside is level grow = first_beside Y m2 root' beside is level.0 grow
  first_grown Y m2 (Err f) beside is level grow = tt

-- what is said of the one that is there
pub some_says : {T : Type 0} (o : Option T) (x : T) (P : T → Type 0) → o ≡ Some x → IfSome o P → P x
some_says None x P is h = absurd (cc)
some_says (Some y) x P is h = let same : y ≡ x = cc in subst P same h
