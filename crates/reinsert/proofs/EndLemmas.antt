-- An insertion has one placing, and those of a far set for each level below the root's that is called.
use Rattle.std.proofs.Common.{◌≡◌, ℕ, zero, suc, ◌+◌, ◌-◌, ◌*◌, ◌<◌, ◌≤◌, Bool, true, false, cond, Option}
use Rattle.std.proofs.Common.{Some, None, List, [], ◌∷◌, ◌++◌, length, map, take, set, refl, sym, ap, subst}
use Rattle.std.proofs.Common.{◌∙◌, ⊎_elim, arith}
use Rattle.std.specs.Prelude.{nat_le, nat_lt, not, ◌&&◌, IsSome}
use Rattle.std.proofs.lemmas.Bool.{cases_eq, false≢true}
use Rattle.std.proofs.lemmas.Bool.Decides.{nat_tests}
use Rattle.std.proofs.lemmas.List.{length-reverse, length-take, length-append, get_or-set_other}
use Rattle.box_math.specs.Measures.{sum_over}
use Rattle.tree_node.specs.Nodes.{Item}
use Rattle.tree_node.specs.Trees.{Row, Branch, Tree}
use Rattle.tree_node.specs.Rows.{branches_of, item_in}
use Rattle.tree_node.specs.Positions.{pick}
use Rattle.tree_node.specs.Orders.{in_order}
use Rattle.reinsert.specs.Children.{Child}
use Rattle.reinsert.specs.Called.{is_called, none_called}
use Rattle.reinsert.specs.Far.{far_count, far_order, far_places, farther}
use Rattle.reinsert.specs.Placing.{Outcome, State, Settles, Places, IsRootAfter, Placing, waiting_on}
use Rattle.reinsert.specs.Placing.{after_child}
use Rattle.reinsert.specs.Insertion.{Placings}
use Rattle.reinsert.specs.Kept.{InsertionEnds}
use Rattle.reinsert.proofs.KeptLemmas.{by_way}
use Rattle.reinsert.proofs.SizeLemmas.{length-pick-le}

-- ---- levels below the root's that are not called

abbrev is_free : List Bool → ℕ → ℕ
is_free called level = cond (is_called called level) 0 1

abbrev free_below : ℕ → List Bool → ℕ
free_below top called = sum_over top (is_free called)

is_free-le : (called : List Bool) (level : ℕ) → is_free called level ≤ 1
is_free-le called level = test (is_called called level)
  where
    test : (b : Bool) → cond b 0 1 ≤ 1
    test true = omega arith
    test false = omega arith

free_below-le : (top : ℕ) (called : List Bool) → free_below top called ≤ top
free_below-le zero called = omega arith
free_below-le (suc top) called = omega (arith, free_below-le top called, is_free-le called top)

-- a level that was called now is called, also above all that the list has
pub called_now : (called : List Bool) (level : ℕ) → is_called (set called level true) level ≡ true
called_now [] level = refl
called_now (b ∷ bs) zero = refl
called_now (b ∷ bs) (suc level) = called_now bs level

called_free : (called : List Bool) (level i : ℕ) → is_free (set called level true) i ≤ is_free called i
called_free called level i = ⊎_elim
    (λ is. subst (λ k. is_free (set called level true) k ≤ is_free called k) (sym is)
    (rw (called_now called level) (omega arith)))
    (λ differs. rw (get_or-set_other called level i true true differs) (omega arith))
    (cases_eq i level)

free_below-falls : (top level : ℕ) (called : List Bool)
    → free_below top (set called level true) ≤ free_below top called
free_below-falls zero level called = omega arith
free_below-falls (suc top) level called =
    omega (arith, free_below-falls top level called, called_free called level top)

free_below-fewer : (top level : ℕ) (called : List Bool) → level < top → is_called called level ≡ false
    → free_below top (set called level true) + 1 ≤ free_below top called
free_below-fewer zero level called below free = absurd (omega (arith, below))
free_below-fewer (suc top) level called below free = ⊎_elim
    (λ is.
    let now : is_free (set called level true) top ≡ 0 =
    subst (λ k. is_free (set called level true) k ≡ 0) (sym is) (rw (called_now called level) refl) in
    let was : is_free called top ≡ 1 = subst (λ k. is_free called k ≡ 1) (sym is) (rw free refl) in
    omega (arith, now, was, free_below-falls top level called))
    (λ differs. omega (
      arith,
      free_below-fewer top level called (omega (arith, below, differs)) free,
      called_free called level top,
    ))
    (cases_eq top level)

-- ---- each level gives one far set

length-far-le : (dims p : ℕ) (items : List Item) → length (far_places dims p items) ≤ p
unfolding far_places far_order
length-far-le dims p items =
    let order = in_order (farther dims items) (length items) in
    omega (arith, length-reverse (take p order), length-take p order)

length-waiting_on : (level : ℕ) (xs : List Branch) → length (waiting_on level xs) ≡ length xs
length-waiting_on level [] = refl
length-waiting_on level (x ∷ xs) = omega (arith, length-waiting_on level xs)

-- what takes out no more than the levels called since then give, and where a node is split off, its level is
-- called
record Counted (dims most top level : ℕ) (called : List Bool) (o : Outcome) : Type 0 where
  far : length o.far + far_count most * free_below top o.called ≤ far_count most * free_below top called
  split : IsSome o.beside → is_called o.called level ≡ true

more_levels : (p a b : ℕ) → a ≤ b → p * a ≤ p * b
more_levels p a b h = grind (arith, h)

-- a far set of p for one level
paid : (far p before after : ℕ) → far ≤ p → after + 1 ≤ before → far + p * after ≤ p * before
paid far p before after few falls = omega (arith, few, more_levels p (after + 1) before falls)

settles_counted : (dims most top level : ℕ) (called : List Bool) (branches : List Branch) (o : Outcome)
    → Settles dims most top level called branches o → Counted dims most top level called o
settles_counted dims most top level called branches o settles =
    by_way (nat_le (length branches) most) (nat_lt level top && not (is_called called level)) settles
    (λ fits is. subst (Counted dims most top level called) (sym is)
    (record { far = omega arith; split = λ some. absurd (false≢true some) }))
    (λ full free is.
    let p = far_count most in
    let gone = pick branches (far_places dims p (map item_in branches)) in
    let few : length (waiting_on level gone) ≤ p =
    omega (
      arith,
      length-waiting_on level gone,
      length-pick-le branches (far_places dims p (map item_in branches)),
      length-far-le dims p (map item_in branches),
    ) in
    let below : level < top = grind (arith, nat_tests, free) in
    let not_called : is_called called level ≡ false = grind (arith, nat_tests, free) in
    subst (Counted dims most top level called) (sym is) (record {
      far = paid (length (waiting_on level gone)) p (free_below top called)
          (free_below top (set called level true)) few (free_below-fewer top level called below not_called);
      split = λ some. absurd (false≢true some);
    }))
    (λ full split. subst (Counted dims most top level called) (sym split.is) (record {
      far = omega (
        arith,
        more_levels (far_count most) (free_below top (set called level true))
            (free_below top called) (free_below-falls top level called),
      );
      split = λ some. called_now called level;
    }))

places_counted : (dims most top level down : ℕ) (called : List Bool) (branch : Branch) (row : Row)
    (o : Outcome) → Places dims most top level down called branch row o → Counted dims most top level called o
places_counted dims most top level zero called branch row o places =
    settles_counted dims most top level called (branches_of row ++ branch ∷ []) o places
places_counted dims most top level (suc down) called branch row o places =
    let low =
    places_counted dims most top (level - 1) down called branch places.from.row places.below
    places.settled in
    let high =
    settles_counted dims most top level places.below.called (after_child dims row places.at places.below)
    places.above places.settles in
    subst (Counted dims most top level called) (sym places.is) (record {
      far = omega (arith, low.far, high.far, length-append places.above.far places.below.far);
      split = high.split;
    })

-- a new root stands over a level that is called
free_below-root : (dims : ℕ) (old new : Tree) (row : Row) (beside : Option Child) (called : List Bool)
    → IsRootAfter dims old row beside new → (IsSome beside → is_called called old.level ≡ true)
    → free_below new.level called ≡ free_below old.level called
free_below-root dims old new row None called is split = ap (λ (t : Tree). free_below t.level called) is
free_below-root dims old new row (Some c) called is split =
    let higher : new.level ≡ old.level + 1 = ap (λ (t : Tree). t.level) is.1 in
    let none : is_free called old.level ≡ 0 = rw (split refl) refl in
    let next : old.level + 1 ≡ suc old.level = omega arith in
    ap (λ n. free_below n called) (higher ∙ next) ∙ omega (arith, none)

-- what is still to be placed at most
abbrev left : ℕ → State → ℕ
left most s = length s.waiting + far_count most * free_below s.tree.level s.called

left-placing : (dims most : ℕ) (elsewhere : ℕ → ℕ) (old new : State) → Placing dims most elsewhere old new
    → left most new + 1 ≤ left most old
left-placing dims most elsewhere old new h =
    let p = far_count most in
    let top = old.tree.level in
    let done =
    places_counted dims most top top (top - h.first.level) old.called h.first.branch old.tree.row
    h.outcome h.places in
    let root : free_below new.tree.level h.outcome.called ≡ free_below top h.outcome.called =
    free_below-root dims old.tree new.tree h.outcome.row h.outcome.beside h.outcome.called h.root
    done.split in
    let free : p * free_below new.tree.level new.called ≡ p * free_below top h.outcome.called =
    ap (λ n. p * n) (ap (free_below new.tree.level) h.called ∙ root) in
    omega (arith, ap length h.waits, ap length h.waiting, length-append h.outcome.far h.rest, done.far, free)

left-placings : (dims most : ℕ) (elsewhere : ℕ → ℕ) (count : ℕ) (old new : State)
    → Placings dims most elsewhere count old new → left most new + count ≤ left most old
left-placings dims most elsewhere zero old new h = omega (arith, ap (left most) h)
left-placings dims most elsewhere (suc count) old new h =
    omega (
      arith,
      left-placings dims most elsewhere count h.0 new h.2,
      left-placing dims most elsewhere old h.0 h.1,
    )

pub insertion_ends : InsertionEnds
insertion_ends dims most elsewhere branch level old new h =
    omega (
      arith,
      left-placings dims most elsewhere h.count _ _ h.placed,
      more_levels (far_count most) (free_below old.level none_called) old.level
          (free_below-le old.level none_called),
    )
