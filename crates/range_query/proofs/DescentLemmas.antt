-- What a descent has found and looked into, child by child.
use Rattle.std.proofs.Common.{◌≡◌, ◌∙◌, ℕ, zero, suc, ◌+◌, ◌-◌, ◌^◌, ◌<◌, ◌≤◌, ◌&&◌, Bool, true, false, cond}
use Rattle.std.proofs.Common.{Option, None, List, [], ◌∷◌, ◌++◌, length, drop, get_or, map, refl, sym, ap}
use Rattle.std.proofs.Common.{subst, arith}
use Rattle.std.specs.Prelude.{⊤}
use Rattle.std.proofs.lemmas.List.{append_assoc, append-nil}
use Rattle.std.proofs.lemmas.List.Elements.{filter-append}
use Rattle.block_device.specs.Device.{one_more}
use Rattle.box_math.specs.Bounds.{Bounds}
use Rattle.box_math.specs.Objects.{Object, bounds_of, tag_of}
use Rattle.page_cache.specs.Cache.{IsHonest, looks_of, pages}
use Rattle.page_cache.specs.Calls.{AsksUntil, asks_in_turn}
use Rattle.page_cache.specs.Laws.{looks_are_few}
use Rattle.page_cache.specs.declared.cache.PageCache.{PageCache}
use Rattle.tree_node.specs.Nodes.{Item}
use Rattle.tree_node.specs.Searches.{counted, objects_reached, reached}
use Rattle.tree_node.specs.Trees.{Row, end, more, object, child, row_items}
use Rattle.node_page.specs.Standing.{PageMap, RowStands, StandsAt}
use Rattle.node_page.proofs.StandingLemmas.{node_stays, row_stays}
use Rattle.range_query.specs.Entries.{object_of, passing_entries, reference_of, wanted_entries}
use Rattle.box_math.specs.Objects.{has_tag}
use Rattle.range_query.specs.Queries.{having}

stands_on : (dims : ℕ) (old new : PageMap) (page level : ℕ) (row : Row) → ((n : ℕ) → new n ≡ old n)
    → StandsAt dims old page level row → StandsAt dims new page level row
stands_on dims old new page level row same at = record {
  node = node_stays dims old new page level row (same page) at.node;
  below = row_stays dims old new level row (λ n there. same n) at.below;
}

-- ---- a leaf

pub leaf_found : (dims : ℕ) (m : PageMap) (level : ℕ) (guard test : Bounds → Bool) (asked : Option ℕ)
    (row : Row) → level ≡ 0 → RowStands dims m level row
    → map object_of (wanted_entries test asked (row_items row)) ≡ having asked
    (objects_reached guard test row)
leaf_found dims m level guard test asked end leaf stands = refl
leaf_found dims m level guard test asked (more (object kept id) rest) leaf stands =
    here (test (bounds_of kept)) (record { bounds = bounds_of kept; reference = id; tag = tag_of kept })
    (wanted_entries test asked (row_items rest)) (objects_reached guard test rest)
    (leaf_found dims m level guard test asked rest leaf stands.1)
  where
    tagged : (u : Bool) (x : Item) (xs : List Item) (ys : List (ℕ × Object)) → map object_of xs ≡ ys
        → map object_of (cond u (x ∷ xs) xs) ≡ cond u (object_of x ∷ ys) ys
    tagged true x xs ys e = ap (λ (l : List (ℕ × Object)). object_of x ∷ l) e
    tagged false x xs ys e = e

    here : (t : Bool) (x : Item) (xs : List Item) (ys : List (ℕ × Object))
        → map object_of xs ≡ having asked ys
        → map object_of (cond (t && has_tag asked (x.bounds, x.tag)) (x ∷ xs) xs) ≡ having asked
        (cond t (object_of x ∷ []) [] ++ ys)
    here true x xs ys e = tagged (has_tag asked (x.bounds, x.tag)) x xs (having asked ys) e
    here false x xs ys e = e
leaf_found dims m level guard test asked (more (child bounds page below) rest) leaf stands =
    absurd (omega (arith, stands.0, leaf))

pub leaf_looked : (dims : ℕ) (m : PageMap) (level : ℕ) (guard : Bounds → Bool) (row : Row) → level ≡ 0
    → RowStands dims m level row → reached guard row ≡ 0
leaf_looked dims m level guard end leaf stands = refl
leaf_looked dims m level guard (more (object kept id) rest) leaf stands =
    leaf_looked dims m level guard rest leaf stands.1
leaf_looked dims m level guard (more (child bounds page below) rest) leaf stands =
    absurd (omega (arith, stands.0, leaf))

-- ---- the children that are admitted

abbrev pub children_of : (Bounds → Bool) → Row → List (ℕ × Row)
children_of guard end = []
children_of guard (more (object kept id) rest) = children_of guard rest
children_of guard (more (child bounds page below) rest) =
    cond (guard bounds) ((page, below) ∷ children_of guard rest) (children_of guard rest)

abbrev pub pages_of : List (ℕ × Row) → List ℕ
pages_of children = map (λ c. c.0) children

abbrev pub objects_below : (Bounds → Bool) → (Bounds → Bool) → Option ℕ → List (ℕ × Row) → List (ℕ × Object)
objects_below guard test asked [] = []
objects_below guard test asked (c ∷ children) = having asked (objects_reached guard test c.1)
    ++ objects_below guard test asked children

abbrev pub nodes_below : (Bounds → Bool) → List (ℕ × Row) → ℕ
nodes_below guard [] = 0
nodes_below guard (c ∷ children) = 1 + reached guard c.1 + nodes_below guard children

abbrev pub AllStand : ℕ → PageMap → ℕ → List (ℕ × Row) → Type 0
AllStand dims m level [] = ⊤
AllStand dims m level (c ∷ children) = StandsAt dims m c.0 level c.1 × AllStand dims m level children

pub children_stand : (dims : ℕ) (m : PageMap) (level : ℕ) (guard : Bounds → Bool) (row : Row)
    → RowStands dims m level row → AllStand dims m (level - 1) (children_of guard row)
children_stand dims m level guard end stands = tt
children_stand dims m level guard (more (object kept id) rest) stands =
    children_stand dims m level guard rest stands.1
children_stand dims m level guard (more (child bounds page below) rest) stands =
    here (guard bounds) (page, below) (children_of guard rest) (record { node = stands.1; below = stands.2 })
    (children_stand dims m level guard rest stands.3)
  where
    here : (t : Bool) (c : ℕ × Row) (cs : List (ℕ × Row)) → StandsAt dims m c.0 (level - 1) c.1
        → AllStand dims m (level - 1) cs → AllStand dims m (level - 1) (cond t (c ∷ cs) cs)
    here true c cs at rest = (at, rest)
    here false c cs at rest = rest

pub children_found : (dims : ℕ) (m : PageMap) (level : ℕ) (guard test : Bounds → Bool) (asked : Option ℕ)
    (row : Row) → 0 < level → RowStands dims m level row
    → objects_below guard test asked (children_of guard row) ≡ having asked (objects_reached guard test row)
children_found dims m level guard test asked end above stands = refl
children_found dims m level guard test asked (more (object kept id) rest) above stands =
    absurd (omega (arith, stands.0, above))
children_found dims m level guard test asked (more (child bounds page below) rest) above stands =
    here (guard bounds) (page, below) (children_of guard rest) (objects_reached guard test rest)
    (children_found dims m level guard test asked rest above stands.3)
  where
    here : (t : Bool) (c : ℕ × Row) (cs : List (ℕ × Row)) (ys : List (ℕ × Object))
        → objects_below guard test asked cs ≡ having asked ys
        → objects_below guard test asked (cond t (c ∷ cs) cs) ≡ having asked
        (cond t (objects_reached guard test c.1) [] ++ ys)
    here true c cs ys e =
        ap (λ (l : List (ℕ × Object)). having asked (objects_reached guard test c.1) ++ l) e
        ∙ sym (filter-append (λ (found : ℕ × Object). has_tag asked found.1)
        (objects_reached guard test c.1) ys)
    here false c cs ys e = e

pub children_looked : (guard : Bounds → Bool) (row : Row)
    → nodes_below guard (children_of guard row) ≡ reached guard row
children_looked guard end = refl
children_looked guard (more (object kept id) rest) = children_looked guard rest
children_looked guard (more (child bounds page below) rest) =
    here (guard bounds) (page, below) (children_of guard rest) (reached guard rest)
    (children_looked guard rest)
  where
    here : (t : Bool) (c : ℕ × Row) (cs : List (ℕ × Row)) (n : ℕ) → nodes_below guard cs ≡ n
        → nodes_below guard (cond t (c ∷ cs) cs) ≡ cond t (1 + reached guard c.1) 0 + n
    here true c cs n e = ap (λ (k : ℕ). 1 + reached guard c.1 + k) e
    here false c cs n e = omega (arith, e)

pub children_named : (dims : ℕ) (m : PageMap) (level : ℕ) (guard : Bounds → Bool) (row : Row) → 0 < level
    → RowStands dims m level row
    → pages_of (children_of guard row) ≡ map reference_of (passing_entries guard (row_items row))
children_named dims m level guard end above stands = refl
children_named dims m level guard (more (object kept id) rest) above stands =
    absurd (omega (arith, stands.0, above))
children_named dims m level guard (more (child bounds page below) rest) above stands =
    here (guard bounds) (page, below) (record { bounds = bounds; reference = page; tag = 0 })
    (children_of guard rest) (passing_entries guard (row_items rest)) refl
    (children_named dims m level guard rest above stands.3)
  where
    here : (t : Bool) (c : ℕ × Row) (x : Item) (cs : List (ℕ × Row)) (xs : List Item) → c.0 ≡ x.reference
        → pages_of cs ≡ map reference_of xs
        → pages_of (cond t (c ∷ cs) cs) ≡ map reference_of (cond t (x ∷ xs) xs)
    here true c x cs xs same e = ap (λ (n : ℕ). n ∷ pages_of cs) same ∙ ap (λ (l : List ℕ). x.reference ∷ l) e
    here false c x cs xs same e = e

-- ---- what a loop over them has done

-- the child in a place, and those after it
record Next (dims : ℕ) (m : PageMap) (level : ℕ) (children : List (ℕ × Row)) (i : ℕ) : Type 0 where
  first : ℕ × Row
  page_is : first.0 ≡ get_or (pages_of children) i 0
  stands : StandsAt dims m first.0 level first.1
  others : drop i children ≡ first ∷ drop (i + 1) children

next_child : (dims : ℕ) (m : PageMap) (level : ℕ) (children : List (ℕ × Row)) (i : ℕ)
    → i < length (pages_of children) → AllStand dims m level children → Next dims m level children i
next_child dims m level [] i within stands = absurd (omega (arith, within))
next_child dims m level (c ∷ children) zero within stands =
    record { first = c; page_is = refl; stands = stands.0; others = refl }
next_child dims m level (c ∷ children) (suc i) within stands =
    let later = next_child dims m level children i (omega (arith, within)) stands.1 in
    record {
      first = later.first;
      page_is = later.page_is;
      stands = later.stands;
      others = later.others
          ∙ ap (λ (n : ℕ). later.first ∷ drop n (c ∷ children))
          (let e : suc (i + 1) ≡ suc i + 1 = omega arith in e);
    }

none_left : (children : List (ℕ × Row)) (i : ℕ) → length (pages_of children) ≤ i → drop i children ≡ []
none_left [] zero past = refl
none_left [] (suc i) past = refl
none_left (c ∷ children) zero past = absurd (omega (arith, past))
none_left (c ∷ children) (suc i) past = none_left children i (omega (arith, past))

counted_on : (looks many : ℕ) → counted (one_more looks) many ≡ counted looks (1 + many)
counted_on looks many = omega arith

counted_twice : (looks many others : ℕ) → counted (counted looks many) others ≡ counted looks (many + others)
counted_twice looks many others = omega arith

counted_none : (looks : ℕ) → looks < 2 ^ 64 → counted looks 0 ≡ looks
counted_none looks few = omega arith

module _ {B A : Type 0} {m : _} where
  -- below the children before place i all is found that is sought, and each node that is admitted was looked
  -- into
  pub record Progress (dims : ℕ) (guard test : Bounds → Bool) (asked : Option ℕ) (old now : PageCache B A m)
      (level : ℕ) (named : List ℕ) (i : ℕ) (rows rows_now : List (ℕ × Object)) : Type 0 where
    pub asks : AsksUntil old now None
    pub found : IsHonest old → (children : List (ℕ × Row)) → pages_of children ≡ named
        → AllStand dims (pages old) (level - 1) children
        → rows_now ++ objects_below guard test asked (drop i children) ≡ rows
        ++ objects_below guard test asked children
    pub looked : IsHonest old → (children : List (ℕ × Row)) → pages_of children ≡ named
        → AllStand dims (pages old) (level - 1) children
        → counted (looks_of now) (nodes_below guard (drop i children)) ≡ counted (looks_of old)
        (1 + nodes_below guard children)

  -- the node was read
  pub begins : (dims : ℕ) (guard test : Bounds → Bool) (asked : Option ℕ) (old now : PageCache B A m)
      (level : ℕ) (named : List ℕ) (rows : List (ℕ × Object)) → AsksUntil old now None
      → looks_of now ≡ one_more (looks_of old)
      → Progress dims guard test asked old now level named 0 rows rows
  begins dims guard test asked old now level named rows asks looked = record {
    asks = asks;
    found = λ h children same stands. refl;
    looked = λ h children same stands. ap (λ (n : ℕ). counted n (nodes_below guard children)) looked
        ∙ counted_on (looks_of old) (nodes_below guard children);
  }

  module _ {dims : ℕ} {guard test : Bounds → Bool} {asked : Option ℕ} {old now : PageCache B A m} {level : ℕ}
      {named : List ℕ} {i : ℕ} {rows rows_now : List (ℕ × Object)}
      (so_far : Progress dims guard test asked old now level named i rows rows_now) where
    next_here : i < length named → (children : List (ℕ × Row)) → pages_of children ≡ named
        → AllStand dims (pages old) (level - 1) children → Next dims (pages old) (level - 1) children i
    next_here within children same stands =
        next_child dims (pages old) (level - 1) children i (omega (arith, within, ap length same)) stands

    -- the tree of the child that the loop is at
    pub stands_here : (page : ℕ) → i < length named → page ≡ get_or named i 0 → IsHonest old
        → (children : List (ℕ × Row)) → pages_of children ≡ named
        → AllStand dims (pages old) (level - 1) children
        → (row : Row) × StandsAt dims (pages now) page (level - 1) row
    stands_here page within is h children same stands =
        let next = next_here within children same stands in
        let page_is : next.first.0 ≡ page = next.page_is ∙ ap (λ (l : List ℕ). get_or l i 0) same ∙ sym is in (
          next.first.1,
          subst (λ (n : ℕ). StandsAt dims (pages now) n (level - 1) next.first.1) page_is
              (stands_on dims (pages old) (pages now) next.first.0 (level - 1) next.first.1
              (so_far.asks.map.pages_stay h) next.stands),
        )

    -- the descent went into it
    pub went_into : (page : ℕ) → i < length named → page ≡ get_or named i 0
        → (next : PageCache B A m) (rows_next : List (ℕ × Object)) → AsksUntil now next None
        → (IsHonest now → (row : Row) → StandsAt dims (pages now) page (level - 1) row
        → rows_next ≡ rows_now ++ having asked (objects_reached guard test row))
        → (IsHonest now → (row : Row) → StandsAt dims (pages now) page (level - 1) row
        → looks_of next ≡ counted (looks_of now) (1 + reached guard row))
        → Progress dims guard test asked old next level named (i + 1) rows rows_next
    went_into page within is next rows_next asks finds looks = record {
      asks = asks_in_turn old now next None so_far.asks asks;
      found = λ h children same stands.
          let c = next_here within children same stands in
          let page_is : c.first.0 ≡ page = c.page_is ∙ ap (λ (l : List ℕ). get_or l i 0) same ∙ sym is in
          let there =
          subst (λ (n : ℕ). StandsAt dims (pages now) n (level - 1) c.first.1) page_is
          (stands_on dims (pages old) (pages now) c.first.0 (level - 1) c.first.1
          (so_far.asks.map.pages_stay h) c.stands) in
          let added = finds (so_far.asks.gate.honest.0 h) c.first.1 there in
          ap (λ (l : List (ℕ × Object)). l ++ objects_below guard test asked (drop (i + 1) children)) added
          ∙ append_assoc rows_now (having asked (objects_reached guard test c.first.1))
          (objects_below guard test asked (drop (i + 1) children))
          ∙ ap (λ (l : List (ℕ × Row)). rows_now ++ objects_below guard test asked l) (sym c.others)
          ∙ so_far.found h children same stands;
      looked = λ h children same stands.
          let c = next_here within children same stands in
          let page_is : c.first.0 ≡ page = c.page_is ∙ ap (λ (l : List ℕ). get_or l i 0) same ∙ sym is in
          let there =
          subst (λ (n : ℕ). StandsAt dims (pages now) n (level - 1) c.first.1) page_is
          (stands_on dims (pages old) (pages now) c.first.0 (level - 1) c.first.1
          (so_far.asks.map.pages_stay h) c.stands) in
          let added = looks (so_far.asks.gate.honest.0 h) c.first.1 there in
          ap (λ (n : ℕ). counted n (nodes_below guard (drop (i + 1) children))) added
          ∙ counted_twice (looks_of now) (1 + reached guard c.first.1)
          (nodes_below guard (drop (i + 1) children))
          ∙ ap (λ (l : List (ℕ × Row)). counted (looks_of now) (nodes_below guard l)) (sym c.others)
          ∙ so_far.looked h children same stands;
    }

    -- all are done
    pub all_found : length named ≤ i → IsHonest old → (children : List (ℕ × Row)) → pages_of children ≡ named
        → AllStand dims (pages old) (level - 1) children
        → rows_now ≡ rows ++ objects_below guard test asked children
    all_found past h children same stands =
        let done = none_left children i (omega (arith, ap length same, past)) in
        sym (append-nil rows_now)
        ∙ ap (λ (l : List (ℕ × Row)). rows_now ++ objects_below guard test asked l) (sym done)
        ∙ so_far.found h children same stands

    pub all_looked : length named ≤ i → IsHonest old → (children : List (ℕ × Row))
        → pages_of children ≡ named → AllStand dims (pages old) (level - 1) children
        → looks_of now ≡ counted (looks_of old) (1 + nodes_below guard children)
    all_looked past h children same stands =
        let done = none_left children i (omega (arith, ap length same, past)) in
        sym (counted_none (looks_of now) (looks_are_few now))
        ∙ ap (λ (l : List (ℕ × Row)). counted (looks_of now) (nodes_below guard l)) (sym done)
        ∙ so_far.looked h children same stands
