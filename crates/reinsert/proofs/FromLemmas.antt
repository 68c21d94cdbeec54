-- Placings from where the levels from the root's on are called: they are those from where no level is.
use Rattle.std.proofs.Common.{◌≡◌, ℕ, zero, suc, ◌+◌, ◌-◌, ◌<◌, ◌≤◌, Bool, true, false, Option, Some, None}
use Rattle.std.proofs.Common.{List, [], ◌∷◌, ◌++◌, length, set, refl, sym, ap, subst, ◌∙◌, ⊎_elim, arith}
use Rattle.std.specs.Prelude.{nat_le, nat_lt, not, ◌&&◌, IsSome, MatchBool}
use Rattle.std.proofs.lemmas.Bool.{cases_eq, false≢true}
use Rattle.std.proofs.lemmas.Bool.Decides.{nat_tests}
use Rattle.std.proofs.lemmas.List.{get_or-set_other, get_or-set_same, get_or-replicate}
use Rattle.tree_node.specs.Trees.{Row, Branch, Tree}
use Rattle.tree_node.specs.Rows.{branches_of}
use Rattle.reinsert.specs.Children.{Child}
use Rattle.reinsert.specs.Called.{is_called, none_called, called_from}
use Rattle.reinsert.specs.Placing.{Outcome, State, Settles, Places, IsRootAfter, Placing, after_child}
use Rattle.reinsert.specs.Insertion.{Placings, IsInsertion}
use Rattle.reinsert.proofs.CalledLemmas.{length-called_from}
use Rattle.reinsert.proofs.EndLemmas.{called_now}

-- the same levels below this one are called
abbrev SameBelow : ℕ → List Bool → List Bool → Type 0
SameBelow top cs ds = (level : ℕ) → level < top → is_called cs level ≡ is_called ds level

-- a call on both keeps them the same, and there they are
same_called : (top level : ℕ) (cs ds : List Bool) → SameBelow top cs ds
    → SameBelow top (set cs level true) (set ds level true)
same_called top level cs ds same = λ i below. ⊎_elim
    (λ is. subst (λ k. is_called (set cs level true) k ≡ is_called (set ds level true) k) (sym is)
    (called_now cs level ∙ sym (called_now ds level)))
    (λ differs. get_or-set_other cs level i true true differs ∙ same i below
    ∙ sym (get_or-set_other ds level i true true differs))
    (cases_eq i level)

same_here : (level : ℕ) (cs ds : List Bool)
    → is_called (set cs level true) level ≡ is_called (set ds level true) level
same_here level cs ds = called_now cs level ∙ sym (called_now ds level)

-- an outcome with other levels called
abbrev with_called : Outcome → List Bool → Outcome
with_called o called = record { row = o.row; beside = o.beside; far = o.far; called = called }

-- a node settles the same from these levels called, also on its own level where another is split off
record Follows (top level : ℕ) (Settled : Outcome → Type 0) (o : Outcome) : Type 0 where
  called : List Bool
  settled : Settled (with_called o called)
  same : SameBelow top called o.called
  here : IsSome o.beside → is_called called level ≡ is_called o.called level

-- the three ways in which a node settles, with both tests
by_tests : {X Y Z R : Type 0} (b c : Bool) → MatchBool b X (MatchBool c Y Z) → (b ≡ true → X → R)
    → (b ≡ false → c ≡ true → Y → R) → (b ≡ false → c ≡ false → Z → R) → R
by_tests true c h f g k = f refl h
by_tests false true h f g k = g refl refl h
by_tests false false h f g k = k refl refl h

settles_same : (dims most top level : ℕ) (cs ds : List Bool) (branches : List Branch) (o : Outcome)
    → SameBelow top cs ds → Settles dims most top level ds branches o
    → Follows top level (Settles dims most top level cs branches) o
settles_same dims most top level cs ds branches o same settles =
    by_tests (nat_le (length branches) most) (nat_lt level top && not (is_called ds level)) settles
    (λ fits is. subst (Follows top level (Settles dims most top level cs branches)) (sym is) (record {
      called = cs;
      settled = rw fits refl;
      same = same;
      here = λ some. absurd (false≢true some);
    }))
    (λ full free is. subst (Follows top level (Settles dims most top level cs branches)) (sym is) (record {
      called = set cs level true;
      settled = rw full (rw (tests_same ∙ free) refl);
      same = same_called top level cs ds same;
      here = λ some. absurd (false≢true some);
    }))
    (λ full held split. subst (Follows top level (Settles dims most top level cs branches)) (sym split.is)
    (record {
      called = set cs level true;
      settled = rw full (rw (tests_same ∙ held) (record {
        page = split.page;
        first = split.first;
        second = split.second;
        splits = split.splits;
        is = refl;
      }));
      same = same_called top level cs ds same;
      here = λ some. same_here level cs ds;
    }))
  where
    with_test : (b : Bool) → nat_lt level top ≡ b
        → (nat_lt level top && not (is_called cs level)) ≡ (nat_lt level top && not (is_called ds level))
    with_test true below =
        ap (λ c. nat_lt level top && not c) (same level (grind (arith, nat_tests, below)))
    with_test false above = rw above refl

    tests_same : (nat_lt level top && not (is_called cs level))
        ≡ (nat_lt level top && not (is_called ds level))
    tests_same = with_test (nat_lt level top) refl

places_same : (dims most top level down : ℕ) (cs ds : List Bool) (branch : Branch) (row : Row) (o : Outcome)
    → SameBelow top cs ds → Places dims most top level down ds branch row o
    → Follows top level (Places dims most top level down cs branch row) o
places_same dims most top level zero cs ds branch row o same places =
    settles_same dims most top level cs ds (branches_of row ++ branch ∷ []) o same places
places_same dims most top level (suc down) cs ds branch row o same places =
    let low =
    places_same dims most top (level - 1) down cs ds branch places.from.row places.below same
    places.settled in
    let high =
    settles_same dims most top level low.called places.below.called
    (after_child dims row places.at places.below) places.above low.same places.settles in
    subst (Follows top level (Places dims most top level (suc down) cs branch row)) (sym places.is) (record {
      called = high.called;
      settled = record {
        at = places.at;
        chosen = places.chosen;
        from = places.from;
        there = places.there;
        below = with_called places.below low.called;
        settled = low.settled;
        above = with_called places.above high.called;
        settles = high.settled;
        is = refl;
      };
      same = high.same;
      here = high.here;
    })

-- ---- from one state to the next

abbrev with_calls : State → List Bool → State
with_calls s called = record { tree = s.tree; waiting = s.waiting; called = called }

root_same : (dims : ℕ) (old new : Tree) (row : Row) (beside : Option Child) (cs ds : List Bool)
    → IsRootAfter dims old row beside new → SameBelow old.level cs ds
    → (IsSome beside → is_called cs old.level ≡ is_called ds old.level) → SameBelow new.level cs ds
root_same dims old new row None cs ds is same here =
    subst (λ (t : Tree). SameBelow t.level cs ds) (sym is) same
root_same dims old new row (Some c) cs ds is same here =
    let higher : new.level ≡ old.level + 1 = ap (λ (t : Tree). t.level) is.1 in
    λ i below. ⊎_elim (λ at. subst (λ k. is_called cs k ≡ is_called ds k) (sym at) (here refl))
    (λ differs. same i (omega (arith, below, higher, differs))) (cases_eq i old.level)

-- the same placing from these levels called
record PlacesSo (dims most : ℕ) (elsewhere : ℕ → ℕ) (old : State) (cs : List Bool) (new : State) : Type
    0 where
  called : List Bool
  placing : Placing dims most elsewhere (with_calls old cs) (with_calls new called)
  same : SameBelow new.tree.level called new.called

placing_same : (dims most : ℕ) (elsewhere : ℕ → ℕ) (old new : State) (cs : List Bool)
    → SameBelow old.tree.level cs old.called → Placing dims most elsewhere old new
    → PlacesSo dims most elsewhere old cs new
placing_same dims most elsewhere old new cs same h =
    let top = old.tree.level in
    let done =
    places_same dims most top top (top - h.first.level) cs old.called h.first.branch old.tree.row h.outcome
    same h.places in
    record {
      called = done.called;
      placing = record {
        first = h.first;
        rest = h.rest;
        waits = h.waits;
        fits = h.fits;
        outcome = with_called h.outcome done.called;
        places = done.settled;
        root = h.root;
        waiting = h.waiting;
        called = refl;
        distinct = h.distinct;
      };
      same =
          subst (SameBelow new.tree.level done.called) (sym h.called)
          (root_same dims old.tree new.tree h.outcome.row h.outcome.beside done.called h.outcome.called
          h.root done.same done.here);
    }

record PlacedSo (dims most : ℕ) (elsewhere : ℕ → ℕ) (count : ℕ) (old : State) (cs : List Bool)
    (new : State) : Type 0 where
  called : List Bool
  placed : Placings dims most elsewhere count (with_calls old cs) (with_calls new called)

placings_same : (dims most : ℕ) (elsewhere : ℕ → ℕ) (count : ℕ) (old new : State) (cs : List Bool)
    → SameBelow old.tree.level cs old.called → Placings dims most elsewhere count old new
    → PlacedSo dims most elsewhere count old cs new
placings_same dims most elsewhere zero old new cs same h =
    record { called = cs; placed = ap (λ s. with_calls s cs) h }
placings_same dims most elsewhere (suc count) old new cs same h =
    let step = placing_same dims most elsewhere old h.0 cs same h.1 in
    let rest = placings_same dims most elsewhere count h.0 new step.called step.same h.2 in
    record { called = rest.called; placed = (with_calls h.0 step.called, step.placing, rest.placed) }

-- ---- an insertion

-- the entry alone waits, and the levels from this one on are called
abbrev pub at_begin : ℕ → Tree → Branch → ℕ → State
at_begin top old branch level = record {
  tree = old;
  waiting = record { branch = branch; level = level } ∷ [];
  called = called_from top;
}

free_below_top : (top level : ℕ) → top ≤ 41 → level < top → is_called (called_from top) level ≡ false
free_below_top zero level low below = absurd (omega (arith, below))
free_below_top (suc top) level low below = ⊎_elim
    (λ is. subst (λ k. is_called (set (called_from top) top false) k ≡ false) (sym is)
    (get_or-set_same (called_from top) top false true (omega (arith, low, length-called_from top))))
    (λ differs. get_or-set_other (called_from top) top level false true differs
    ∙ free_below_top top level (omega (arith, low)) (omega (arith, below, differs)))
    (cases_eq level top)

-- placings from there to where nothing waits are an insertion
pub insertion_from : (dims most top level : ℕ) (elsewhere : ℕ → ℕ) (branch : Branch) (old new : Tree)
    (called : List Bool) (count : ℕ) → top ≤ 41 → old.level ≡ top
    → Placings dims most elsewhere count (at_begin top old branch level)
    (record { tree = new; waiting = []; called = called })
    → IsInsertion dims most elsewhere branch level old new
insertion_from dims most top level elsewhere branch old new called count low is placed =
    let same : SameBelow old.level none_called (called_from top) =
    λ i below. get_or-replicate 41 i false true (omega (arith, below, low, is))
    ∙ sym (free_below_top top i low (omega (arith, below, is))) in
    let so =
    placings_same dims most elsewhere count (at_begin top old branch level)
    (record { tree = new; waiting = []; called = called }) none_called same placed in
    record { count = count; called = so.called; placed = so.placed }
