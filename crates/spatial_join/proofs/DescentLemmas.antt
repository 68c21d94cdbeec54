-- What a descent into pairs of nodes has added and looked at, entry by entry.
use Rattle.std.proofs.Common.{◌≡◌, ◌∙◌, ℕ, zero, suc, ◌+◌, ◌-◌, ◌*◌, ◌^◌, ◌<◌, ◌≤◌, true, false, None, Some, Result}
use Rattle.std.proofs.Common.{IsErrAnd, List, [], ◌∷◌, ◌++◌, length, drop, get_or, map, All, refl, sym, ap}
use Rattle.std.proofs.Common.{subst, arith, add-one}
use Rattle.std.specs.Prelude.{◌↔◌}
use Rattle.std.specs.List.{flat_map}
use Rattle.std.proofs.lemmas.List.{get_or_default, length-map}
use Rattle.std.proofs.lemmas.List.Elements.{All-get_or}
use Rattle.block_device.specs.Device.{one_more}
use Rattle.box_math.specs.Bounds.{Within}
use Rattle.box_math.specs.Objects.{Object, bounds_of, tag_of}
use Rattle.box_math.specs.Measures.{near_test}
use Rattle.box_math.specs.Masks.{has_bit}
use Rattle.page_file.specs.Fault.{faults_after}
use Rattle.page_file.specs.declared.fault.Fault.{Fault}
use Rattle.page_file.specs.declared.fault.Fault.TheVariants as fault
use Rattle.page_cache.specs.Cache.{IsHonest, device_of, looks_of, pages}
use Rattle.page_cache.specs.Calls.{Asks, AsksUntil, asks_and_refuses, asks_in_turn, no_call_asks}
use Rattle.page_cache.specs.declared.cache.PageCache.{PageCache}
use Rattle.tree_node.specs.declared.node.Entry.{Entry}
use Rattle.tree_node.specs.Boxes.{box_at, no_item}
use Rattle.tree_node.specs.Nodes.{Item, NodeContent, item_of}
use Rattle.tree_node.specs.Positions.{total}
use Rattle.tree_node.specs.Trees.{Row, end, more, object, child, objects_in, row_items}
use Rattle.tree_node.proofs.PositionLemmas.{total-append}
use Rattle.tree_node.proofs.RowLemmas.{all_dropped, entry_item, items_from, row_drop, row_drop_more, row_tail}
use Rattle.node_page.specs.Standing.{PageMap, RowStands, StandsAt, node_in}
use Rattle.node_page.proofs.LeafLemmas.{dropped_stands, stands_on}
use Rattle.node_page.proofs.StandingLemmas.{row_stays}
use Rattle.spatial_join.specs.Pairs.{GainsItems, GainsPairs, near_objects, pairs_of}
use Rattle.spatial_join.specs.Opening.{Encloses, HasRow, opened, opened_level, sole}
use Rattle.spatial_join.specs.Masks.{Tells}
use Rattle.spatial_join.proofs.LeafJoin.{items_within, leaves_near}
use Rattle.spatial_join.proofs.LeafPairs.{leaf_sum}
use Rattle.spatial_join.proofs.OpeningLemmas.{fewer_pairs, objects_opened, only, opened_encloses}
use Rattle.spatial_join.proofs.OpeningLemmas.{leaves_alone, opened_here, opened_stands}
use Rattle.spatial_join.proofs.PairLemmas.{heads_apart, near_sum, near_sum-left, near_sum-none}
use Rattle.spatial_join.proofs.PairLemmas.{near_sum-right, pairs_below, pairs_below-left, pairs_below-right}
use Rattle.spatial_join.proofs.PairLemmas.{row_head}

-- ---- entries from a place on

pub next_place : (j : ℕ) (t : Row) → row_drop (j + 1) t ≡ row_tail (row_drop j t)
next_place j t = ap (λ (n : ℕ). row_drop n t) (add-one j) ∙ row_drop_more j t

pub Encloses-row_drop : (dims n : ℕ) (row : Row) → Encloses dims row → Encloses dims (row_drop n row)
Encloses-row_drop dims zero row h = h
Encloses-row_drop dims (suc n) end h = h
Encloses-row_drop dims (suc n) (more (object kept id) rest) h = Encloses-row_drop dims n rest h
Encloses-row_drop dims (suc n) (more (child bounds page below) rest) h = Encloses-row_drop dims n rest h.2

pub Encloses-row_head : (dims : ℕ) (row : Row) → Encloses dims row → Encloses dims (row_head row)
Encloses-row_head dims end h = h
Encloses-row_head dims (more (object kept id) rest) h = tt
Encloses-row_head dims (more (child bounds page below) rest) h = (h.0, h.1, tt)

-- the entry that a loop is at
pub entry_here : {dims : ℕ} (s : Row) (entries all : List (Entry dims)) (i : ℕ) (e : Entry dims)
    → row_items s ≡ map item_of all → entries ≡ all → i < length entries → e ≡ get_or entries i e
    → row_items (row_drop i s) ≡ item_of e ∷ drop (i + 1) (map item_of entries)
entry_here s entries all i e same value within is =
    items_from s (map item_of entries) i (item_of e) (same ∙ ap (map item_of) (sym value))
    (omega (arith, within, length-map entries item_of)) (entry_item entries i e within is)

-- a reference above the leaves is a page
pub page_fits : {dims : ℕ} (all entries : List (Entry dims)) (i : ℕ) (e : Entry dims)
    → All (λ (item : Item). item.reference < 2 ^ 32) (map item_of all) → entries ≡ all → i < length entries
    → e ≡ get_or entries i e → e.reference < 2 ^ 32
page_fits all entries i e pages_fit value within is =
    let here : All (λ (item : Item). item.reference < 2 ^ 32) (map item_of entries) =
    subst (λ es. All (λ (item : Item). item.reference < 2 ^ 32) (map item_of es)) (sym value) pages_fit in
    let at =
    All-get_or (λ (item : Item). item.reference < 2 ^ 32) (map item_of entries) i (item_of e)
    (omega (arith, within, length-map entries item_of)) here in
    subst (λ (item : Item). item.reference < 2 ^ 32) (sym (entry_item entries i e within is)) at

pub both_above : (l r : ℕ) → ((l ≡ 0) ↔ (r ≡ 0)) → 0 < l → 0 < r
both_above l zero together above = absurd (omega (arith, above, together.1 refl))
both_above l (suc r) together above = omega arith

-- all entries are passed
pub all_passed : {dims : ℕ} (entries all : List (Entry dims)) (i : ℕ) → entries ≡ all → length entries ≤ i
    → length (map item_of all) ≤ i
all_passed entries all i value past = omega (arith, ap length value, length-map all item_of, past)

-- those left from entry i on
abbrev pub left_from : ℕ → ℕ → ℕ → (ℕ × ℕ → ℕ) → Row → Row → ℕ
left_from dims limit i f s t = near_sum dims limit f (row_drop i s) t

abbrev pub nodes_from : ℕ → ℕ → ℕ → Row → Row → ℕ
nodes_from dims limit i s t = pairs_below dims limit (row_drop i s) t

-- of one entry, those left from entry j of the other node on
abbrev pub left_beside : ℕ → ℕ → ℕ → (ℕ × ℕ → ℕ) → Row → Row → ℕ
left_beside dims limit j f s t = near_sum dims limit f (row_head s) (row_drop j t)

-- and the pairs of nodes
abbrev pub nodes_beside : ℕ → ℕ → ℕ → Row → Row → ℕ
nodes_beside dims limit j s t = pairs_below dims limit (row_head s) (row_drop j t)

-- one entry of the other node
left_next : (dims limit j : ℕ) (f : ℕ × ℕ → ℕ) (s t : Row)
    → left_beside dims limit j f s t ≡ near_sum dims limit f (row_head s)
    (row_head (row_drop j t)) + left_beside dims limit (j + 1) f s t
left_next dims limit j f s t =
    let all = near_sum-right dims limit f (row_head s) (row_drop j t) in
    let rest = ap (λ (r : Row). near_sum dims limit f (row_head s) r) (next_place j t) in
    omega (arith, all, rest)

nodes_next : (dims limit j : ℕ) (s t : Row)
    → nodes_beside dims limit j s t ≡ pairs_below dims limit (row_head s)
    (row_head (row_drop j t)) + nodes_beside dims limit (j + 1) s t
nodes_next dims limit j s t =
    let all = pairs_below-right dims limit (row_head s) (row_drop j t) in
    let rest = ap (λ (r : Row). pairs_below dims limit (row_head s) r) (next_place j t) in
    omega (arith, all, rest)

-- ---- the first entry alone

head_items : (s : Row) (x : Item) (xs : List Item) → row_items s ≡ x ∷ xs → row_items (row_head s) ≡ x ∷ []
head_items end x xs same = absurd (cc)
head_items (more (object b id) rest) x xs same =
    let first : ◌≡◌ {A = Item} (record { bounds = bounds_of b; reference = id; tag = tag_of b }) x = cc in
    ap (λ (z : Item). z ∷ []) first
head_items (more (child b page below) rest) x xs same =
    let first : ◌≡◌ {A = Item} (record { bounds = b; reference = page; tag = 0 }) x = cc in
    ap (λ (z : Item). z ∷ []) first

head_stands : (dims : ℕ) (m : PageMap) (level : ℕ) (s : Row) → RowStands dims m level s
    → RowStands dims m level (row_head s)
head_stands dims m level end stands = tt
head_stands dims m level (more (object b id) rest) stands = (stands.0, tt)
head_stands dims m level (more (child b page below) rest) stands = (stands.0, stands.1, stands.2, tt)

-- a node with one entry has no other
no_rest : (rest : Row) → row_items rest ≡ [] → end ≡ rest
no_rest rest none = sym (all_dropped 0 rest (omega (arith, ap length none)))

sole_head : (s : Row) (x : Item) → row_items s ≡ x ∷ [] → row_head s ≡ s
sole_head end x same = refl
sole_head (more (object b id) rest) x same = let none : row_items rest ≡ [] = cc in
    ap (λ (r : Row). more (object b id) r) (no_rest rest none)
sole_head (more (child b page below) rest) x same = let none : row_items rest ≡ [] = cc in
    ap (λ (r : Row). more (child b page below) r) (no_rest rest none)

-- ---- two nodes

pub record Below (dims : ℕ) (m : PageMap) (level : ℕ) (row : Row) (x : Item) : Type 0 where
  pub below : Row
  pub stands : StandsAt dims m x.reference (level - 1) below
  pub head_is : row_head row ≡ only x.bounds x.reference below

pub below_first : (dims : ℕ) (m : PageMap) (level : ℕ) (row : Row) (x : Item) (xs : List Item)
    → row_items row ≡ x ∷ xs → 0 < level → RowStands dims m level row → Below dims m level row x
below_first dims m level end x xs same above stands = absurd (cc)
below_first dims m level (more (object kept id) rest) x xs same above stands =
    absurd (omega (arith, stands.0, above))
below_first dims m level (more (child bounds page below) rest) x xs same above stands =
    let item : ◌≡◌ {A = Item} (record { bounds = bounds; reference = page; tag = 0 }) x = cc in
    record {
      below = below;
      stands =
          subst (λ (n : ℕ). StandsAt dims m n (level - 1) below) (ap (λ (y : Item). y.reference) item)
          (record { node = stands.1; below = stands.2 });
      head_is = ap (λ (y : Item). only y.bounds y.reference below) item;
    }

-- what is opened of two first entries has the pairs that are below them
opened_sum : (dims limit : ℕ) (f : ℕ × ℕ → ℕ) (l o : ℕ) (s t : Row) (x y : Item) (below beside : Row)
    → row_head s ≡ only x.bounds x.reference below → row_head t ≡ only y.bounds y.reference beside
    → near_sum dims limit f (row_head s) (row_head t) ≡ near_sum dims limit f
    (opened l o x.bounds x.reference below) (opened o l y.bounds y.reference beside)
opened_sum dims limit f l o s t x y below beside first second =
    ap (λ (r : Row). near_sum dims limit f r (row_head t)) first
    ∙ ap (λ (r : Row). near_sum dims limit f (only x.bounds x.reference below) r) second
    ∙ ap (λ (xs : List (ℕ × Object)). total f
    (near_objects dims limit xs (objects_in (only y.bounds y.reference beside))))
    (objects_opened l o x.bounds x.reference below)
    ∙ ap (λ (ys : List (ℕ × Object)). total f
    (near_objects dims limit (objects_in (opened l o x.bounds x.reference below)) ys))
    (objects_opened o l y.bounds y.reference beside)

opened_pairs : (dims limit l o : ℕ) (s t : Row) (x y : Item) (below beside : Row)
    → row_head s ≡ only x.bounds x.reference below → row_head t ≡ only y.bounds y.reference beside
    → near_test dims limit x.bounds y.bounds ≡ true
    → 1 + pairs_below dims limit (opened l o x.bounds x.reference below)
    (opened o l y.bounds y.reference beside) ≤ pairs_below dims limit (row_head s) (row_head t)
opened_pairs dims limit l o s t x y below beside first second meets =
    let same = ap (λ (r : Row). pairs_below dims limit r (row_head t)) first
    ∙ ap (λ (r : Row). pairs_below dims limit (only x.bounds x.reference below) r) second in
    omega (
      arith,
      same,
      fewer_pairs dims limit l o x.bounds x.reference below y.bounds y.reference beside meets,
    )

-- ---- what the loops have done

module _ {B A : Type 0} {m : _} where
  -- a tree stands as it did after calls that only asked
  pub still_stands : {dims : ℕ} (old new : PageCache B A m) (page level : ℕ) (row : Row)
      → AsksUntil old new None → IsHonest old → StandsAt dims (pages old) page level row
      → StandsAt dims (pages new) page level row
  still_stands {dims} old new page level row asks h at =
      stands_on dims (pages old) (pages new) page level row (asks.map.pages_stay h) at

  -- calls that only asked, and then a growth that was refused
  pub asks_and_runs_out : {T : Type 0} (old now : PageCache B A m) (f : Fault) (result : Result T Fault)
      → IsErrAnd result (λ e. e ≡ f) → f ≡ fault.Memory → AsksUntil old now None → Asks old now result
  asks_and_runs_out old now f result is memory asks =
      asks_and_refuses old now now f result is asks
      (record {
        gate = none.gate;
        map = none.map;
        capacity = none.capacity;
        looks = none.looks;
        touched = none.touched;
        faults = sym (ap (λ e. faults_after e (m.faults (device_of now))) memory);
      })
    where
      none : AsksUntil now now None
      none = no_call_asks now

  -- so has a node its entries, and the trees below them stand
  pub still_has : {dims : ℕ} (old new : PageCache B A m) (c : NodeContent) (row : Row)
      → AsksUntil old new None → IsHonest old → HasRow dims (pages old) c row → HasRow dims (pages new) c row
  still_has {dims} old new c row asks h has =
      record {
        items = has.items;
        below = row_stays dims (pages old) (pages new) c.level row (λ n there. asks.map.pages_stay h n)
            has.below;
      }

  -- so many pairs of objects are left to add, and so many pairs of nodes to look at, and some looks were
  -- taken ahead
  pub record Progress (dims limit : ℕ) (old now : PageCache B A m) (left right : NodeContent)
      (objects_left : (ℕ × ℕ → ℕ) → Row → Row → ℕ) (nodes_left : Row → Row → ℕ) (ahead : ℕ)
      (pairs pairs_now : List (ℕ × ℕ)) : Type 0 where
    pub asks : AsksUntil old now None
    pub added : IsHonest old → (s t : Row) → HasRow dims (pages old) left s → HasRow dims (pages old) right t
        → Encloses dims s → Encloses dims t → (f : ℕ × ℕ → ℕ)
        → total f pairs_now + objects_left f s t ≡ total f pairs + near_sum dims limit f s t
    pub looked : IsHonest old → (s t : Row) → HasRow dims (pages old) left s
        → HasRow dims (pages old) right t
        → looks_of now + 2 * nodes_left s t ≤ looks_of old + 2 * pairs_below dims limit s t + ahead

  -- ---- the entries of the left node in turn

  -- nothing was done
  pub begins : (dims limit : ℕ) (old : PageCache B A m) (left right : NodeContent) (pairs : List (ℕ × ℕ))
      → Progress dims limit old old left right (left_from dims limit 0) (nodes_from dims limit 0) 0 pairs
      pairs
  begins dims limit old left right pairs = record {
    asks = no_call_asks old;
    added = λ h s t first second e e' f. refl;
    looked = λ h s t first second. omega arith;
  }

  module _ {dims limit : ℕ} {old now : PageCache B A m} {left right : NodeContent}
      {pairs pairs_now : List (ℕ × ℕ)} (i : ℕ)
      (so_far : Progress dims limit old now left right (left_from dims limit i) (nodes_from dims limit i) 0
      pairs pairs_now) where
    -- all is done
    pub all_added : length left.entries ≤ i → IsHonest old → (s t : Row) → HasRow dims (pages old) left s
        → HasRow dims (pages old) right t
        → Encloses dims s → Encloses dims t → GainsPairs dims limit s t pairs pairs_now
    all_added past h s t first second e e' f =
        let done = all_dropped i s (omega (arith, ap length first.items, past)) in
        let none : near_sum dims limit f (row_drop i s) t ≡ 0 =
        ap (λ (r : Row). near_sum dims limit f r t) done in
        omega (arith, so_far.added h s t first second e e' f, none)

    pub all_looked : IsHonest old → (s t : Row) → HasRow dims (pages old) left s
        → HasRow dims (pages old) right t
        → looks_of now ≤ looks_of old + 2 * pairs_below dims limit s t
    all_looked h s t first second = omega (arith, so_far.looked h s t first second)

    module _ (x : Item) (xs : List Item)
        (here : (s : Row) → row_items s ≡ left.entries → row_items (row_drop i s) ≡ x ∷ xs) where
      -- the pairs of an object are added
      pub object_added : left.level ≡ 0 → right.level ≡ 0 → (pairs_next : List (ℕ × ℕ))
          → pairs_next ≡ pairs_now ++ pairs_of dims limit right.entries x
          → Progress dims limit old now left right (left_from dims limit (i + 1))
          (nodes_from dims limit (i + 1)) 0 pairs pairs_next
      object_added leaf leaf' pairs_next pushed = record {
        asks = so_far.asks;
        added = λ h s t first second e e' f.
            let stands =
            dropped_stands dims (pages old) 0 i s
            (subst (λ (l : ℕ). RowStands dims (pages old) l s) leaf first.below) in
            let stands' = subst (λ (l : ℕ). RowStands dims (pages old) l t) leaf' second.below in
            let one =
            leaf_sum dims limit (pages old) f (row_drop i s) t x xs right.entries (here s first.items)
            second.items stands stands' in
            let more_pairs = ap (total f) pushed
            ∙ total-append f pairs_now (pairs_of dims limit right.entries x) in
            let rest = ap (λ (r : Row). near_sum dims limit f r t) (next_place i s) in
            omega (
              arith,
              so_far.added h s t first second e e' f,
              near_sum-left dims limit f (row_drop i s) t,
              rest,
              one,
              more_pairs,
            );
        looked = λ h s t first second.
            let rest = ap (λ (r : Row). pairs_below dims limit r t) (next_place i s) in
            omega (
              arith,
              so_far.looked h s t first second,
              pairs_below-left dims limit (row_drop i s) t,
              rest,
            );
      }

      -- the entry alone, as the pages are now
      pub here_alone : IsHonest old → (s : Row) → HasRow dims (pages old) left s
          → HasRow dims (pages now) (sole left.level x) (row_head (row_drop i s))
      here_alone h s first =
          let alone : HasRow dims (pages old) (sole left.level x) (row_head (row_drop i s)) = record {
            items = head_items (row_drop i s) x xs (here s first.items);
            below = head_stands dims (pages old) left.level (row_drop i s)
                (dropped_stands dims (pages old) left.level i s first.below);
          } in
          still_has old now (sole left.level x) (row_head (row_drop i s)) so_far.asks h alone

      pub right_here : IsHonest old → (t : Row) → HasRow dims (pages old) right t
          → HasRow dims (pages now) right t
      right_here h t second = still_has old now right t so_far.asks h second

      -- the pairs below the entry are added
      pub entry_added : (next : PageCache B A m) (pairs_next : List (ℕ × ℕ)) → AsksUntil now next None
          → (IsHonest now → (s t : Row) → HasRow dims (pages now) (sole left.level x) s
          → HasRow dims (pages now) right t → Encloses dims s → Encloses dims t
          → GainsPairs dims limit s t pairs_now pairs_next)
          → (IsHonest now → (s t : Row) → HasRow dims (pages now) (sole left.level x) s
          → HasRow dims (pages now) right t → looks_of next ≤ looks_of now + 2 * pairs_below dims limit s t)
          → Progress dims limit old next left right (left_from dims limit (i + 1))
          (nodes_from dims limit (i + 1)) 0 pairs pairs_next
      entry_added next pairs_next asks adds looked = record {
        asks = asks_in_turn old now next None so_far.asks asks;
        added = λ h s t first second e e' f.
            let found =
            adds (so_far.asks.gate.honest.0 h) (row_head (row_drop i s)) t (here_alone h s first)
            (right_here h t second)
            (Encloses-row_head dims (row_drop i s) (Encloses-row_drop dims i s e)) e' f in
            let rest = ap (λ (r : Row). near_sum dims limit f r t) (next_place i s) in
            omega (
              arith,
              so_far.added h s t first second e e' f,
              near_sum-left dims limit f (row_drop i s) t,
              rest,
              found,
            );
        looked = λ h s t first second.
            let found =
            looked (so_far.asks.gate.honest.0 h) (row_head (row_drop i s)) t (here_alone h s first)
            (right_here h t second) in
            let rest = ap (λ (r : Row). pairs_below dims limit r t) (next_place i s) in
            omega (
              arith,
              so_far.looked h s t first second,
              pairs_below-left dims limit (row_drop i s) t,
              rest,
              found,
            );
      }

  -- ---- the entries of the right node beside one of the left

  module _ {dims limit : ℕ} {old now : PageCache B A m} {level : ℕ} {x : Item} {right : NodeContent}
      {pairs pairs_now : List (ℕ × ℕ)} {ahead : ℕ} where
    -- nothing was added, and at most the left node looked at
    pub beside_begins : AsksUntil old now None → looks_of now ≤ looks_of old + ahead → pairs_now ≡ pairs
        → Progress dims limit old now (sole level x) right (left_beside dims limit 0)
        (nodes_beside dims limit 0) ahead pairs pairs_now
    beside_begins asks looks same = record {
      asks = asks;
      added = λ h s t first second e e' f. omega
          (arith, ap (λ (r : Row). near_sum dims limit f r t) (sole_head s x first.items), ap (total f) same);
      looked =
          λ h s t first second. omega
          (arith, ap (λ (r : Row). pairs_below dims limit r t) (sole_head s x first.items), looks);
    }

    module _ (j : ℕ)
        (so_far : Progress dims limit old now (sole level x) right (left_beside dims limit j)
        (nodes_beside dims limit j) ahead pairs pairs_now) where
      -- all is done
      beside_added : length right.entries ≤ j → IsHonest old → (s t : Row)
          → HasRow dims (pages old) (sole level x) s → HasRow dims (pages old) right t
          → Encloses dims s → Encloses dims t → GainsPairs dims limit s t pairs pairs_now
      beside_added past h s t first second e e' f =
          let done = all_dropped j t (omega (arith, ap length second.items, past)) in
          let none = ap (near_sum dims limit f (row_head s)) done ∙ near_sum-none dims limit f (row_head s) in
          omega (arith, so_far.added h s t first second e e' f, none)

      -- an entry whose box does not meet is passed over
      passed_over : (y : Item) (ys : List Item)
          → ((t : Row) → row_items t ≡ right.entries → row_items (row_drop j t) ≡ y ∷ ys)
          → near_test dims limit x.bounds y.bounds ≡ false
          → Progress dims limit old now (sole level x) right (left_beside dims limit (j + 1))
          (nodes_beside dims limit (j + 1)) ahead pairs pairs_now
      passed_over y ys there fails = record {
        asks = so_far.asks;
        added = λ h s t first second e e' f.
            let none =
            heads_apart dims limit f s (row_drop j t) x y [] ys first.items (there t second.items) e
            (Encloses-row_drop dims j t e') fails in
            omega (arith, so_far.added h s t first second e e' f, left_next dims limit j f s t, none);
        looked =
            λ h s t first second. omega
            (arith, so_far.looked h s t first second, nodes_next dims limit j s t);
      }

      module _ (y : Item) (ys : List Item)
          (there : (t : Row) → row_items t ≡ right.entries → row_items (row_drop j t) ≡ y ∷ ys)
          (above : 0 < level) (above' : 0 < right.level) where
        pub below_of : (s : Row) → HasRow dims (pages old) (sole level x) s → Below dims (pages old) level s x
        below_of s first = below_first dims (pages old) level s x [] first.items above first.below

        pub beside_of : (t : Row) → HasRow dims (pages old) right t
            → Below dims (pages old) right.level (row_drop j t) y
        beside_of t second =
            below_first dims (pages old) right.level (row_drop j t) y ys (there t second.items) above'
            (dropped_stands dims (pages old) right.level j t second.below)

        -- the tree below the right entry, as the pages are later
        pub second_stands : (next : PageCache B A m) → AsksUntil now next None → IsHonest old → (t : Row)
            → HasRow dims (pages old) right t
            → (beside : Row) × StandsAt dims (pages next) y.reference (right.level - 1) beside
        second_stands next asks h t second =
            let b = beside_of t second in (
              b.below,
              still_stands old next y.reference (right.level - 1) b.below
                  (asks_in_turn old now next None so_far.asks asks) h b.stands,
            )

        -- of two nodes whose boxes meet the left one was opened before, now the right one too, and the pairs
        -- below them added
        module _ (two : PageCache B A m) (asks : AsksUntil now two None) (opening opening' : NodeContent)
            (level_is : opening.level ≡ opened_level (level - 1) (right.level - 1))
            (level_is' : opening'.level ≡ opened_level (right.level - 1) (level - 1))
            (entries_are : IsHonest old → (row : Row) → StandsAt dims (pages old) x.reference (level - 1) row
            → row_items (opened (level - 1) (right.level - 1) x.bounds x.reference row) ≡ opening.entries)
            (entries_are' : IsHonest now → (row : Row)
            → StandsAt dims (pages now) y.reference (right.level - 1) row
            → row_items
            (opened (right.level - 1) (level - 1) y.bounds y.reference row) ≡ opening'.entries) where
          -- what was opened of the left one
          pub opened_first : IsHonest old → (s : Row) (first : HasRow dims (pages old) (sole level x) s)
              → HasRow dims (pages two) opening
              (opened (level - 1) (right.level - 1) x.bounds x.reference (below_of s first).below)
          unfolding below_of
          opened_first h s first =
              let b = below_of s first in
              let later =
              still_stands old two x.reference (level - 1) b.below
              (asks_in_turn old now two None so_far.asks asks) h b.stands in
              record {
                items = entries_are h b.below b.stands;
                below = subst
                    (λ (l : ℕ). RowStands dims (pages two) l
                    (opened (level - 1) (right.level - 1) x.bounds x.reference b.below)) (sym level_is)
                    (opened_stands dims (pages two) (right.level - 1) x.bounds x.reference (level - 1)
                    b.below later);
              }

          -- and of the right one
          pub opened_second : IsHonest old → (t : Row) (second : HasRow dims (pages old) right t)
              → HasRow dims (pages two) opening'
              (opened (right.level - 1) (level - 1) y.bounds y.reference (beside_of t second).below)
          unfolding beside_of second_stands
          opened_second h t second =
              let at = second_stands now (no_call_asks now) h t second in
              let later = second_stands two asks h t second in
              record {
                items = entries_are' (so_far.asks.gate.honest.0 h) at.0 at.1;
                below = subst
                    (λ (l : ℕ). RowStands dims (pages two) l
                    (opened (right.level - 1) (level - 1) y.bounds y.reference later.0)) (sym level_is')
                    (opened_stands dims (pages two) (level - 1) y.bounds y.reference (right.level - 1)
                    later.0 later.1);
              }

          pub honest_two : IsHonest old → IsHonest two
          honest_two h = asks.gate.honest.0 (so_far.asks.gate.honest.0 h)

          -- the look at the left one was taken ahead, and the first pair makes up for it
          pub went_below : near_test dims limit x.bounds y.bounds ≡ true → ahead ≤ 1
              → (next : PageCache B A m) (pairs_next : List (ℕ × ℕ)) → AsksUntil two next None
              → looks_of two ≤ looks_of now + 1
              → (IsHonest two → (s t : Row) → HasRow dims (pages two) opening s
              → HasRow dims (pages two) opening' t → Encloses dims s → Encloses dims t
              → GainsPairs dims limit s t pairs_now pairs_next)
              → (IsHonest two → (s t : Row) → HasRow dims (pages two) opening s
              → HasRow dims (pages two) opening' t
              → looks_of next ≤ looks_of two + 2 * pairs_below dims limit s t)
              → Progress dims limit old next (sole level x) right (left_beside dims limit (j + 1))
              (nodes_beside dims limit (j + 1)) (1 - (j + 1)) pairs pairs_next
          went_below meets few next pairs_next asks' looks adds looked = record {
            asks = asks_in_turn old now next None so_far.asks (asks_in_turn now two next None asks asks');
            added = λ h s t first second e e' f.
                let b = below_of s first in
                let c = beside_of t second in
                let inner = subst (Encloses dims) b.head_is (Encloses-row_head dims s e) in
                let outer =
                subst (Encloses dims) c.head_is
                (Encloses-row_head dims (row_drop j t) (Encloses-row_drop dims j t e')) in
                let found = adds (honest_two h) _ _ (opened_first h s first) (opened_second h t second)
                (opened_encloses dims (level - 1) (right.level - 1) x.bounds x.reference b.below inner)
                (opened_encloses dims (right.level - 1) (level - 1) y.bounds y.reference c.below outer)
                f in
                let same =
                opened_sum dims limit f (level - 1) (right.level - 1) s (row_drop j t) x y b.below
                c.below b.head_is c.head_is in
                omega (
                  arith,
                  so_far.added h s t first second e e' f,
                  left_next dims limit j f s t,
                  found,
                  same,
                );
            looked = λ h s t first second.
                let b = below_of s first in
                let c = beside_of t second in
                let found = looked (honest_two h) _ _ (opened_first h s first) (opened_second h t second) in
                let fewer =
                opened_pairs dims limit (level - 1) (right.level - 1) s (row_drop j t) x y b.below
                c.below b.head_is c.head_is meets in
                omega (
                  arith,
                  so_far.looked h s t first second,
                  nodes_next dims limit j s t,
                  found,
                  fewer,
                  looks,
                  few,
                );
          }

        -- of two leaves whose boxes meet the left one was opened before, and the pairs of their objects are
        -- added in one look
        module _ (leaf : NodeContent) (level_is : leaf.level ≡ opened_level (level - 1) (right.level - 1))
            (is_leaf : leaf.level ≡ 0)
            (entries_are : IsHonest old → (row : Row) → StandsAt dims (pages old) x.reference (level - 1) row
            → row_items (opened (level - 1) (right.level - 1) x.bounds x.reference row) ≡ leaf.entries) where
          levels : (level - 1 ≡ 0) × (right.level - 1 ≡ 0)
          levels = leaves_alone (level - 1) (right.level - 1) (sym level_is ∙ is_leaf)

          -- the right leaf, as the pages are now
          pub leaf_beside : IsHonest old → (t : Row) → HasRow dims (pages old) right t
              → (c : NodeContent) × (node_in dims (pages now y.reference) ≡ Some c) × (c.level ≡ 0)
          leaf_beside h t second =
              let at = second_stands now (no_call_asks now) h t second in
              (record { level = right.level - 1; entries = row_items at.0 }, at.1.node, levels.1)

          pub leaves_joined : near_test dims limit x.bounds y.bounds ≡ true → ahead ≤ 1
              → (next : PageCache B A m) (pairs_next : List (ℕ × ℕ)) → AsksUntil now next None
              → looks_of next ≡ one_more (looks_of now)
              → (IsHonest now → (c : NodeContent) → node_in dims (pages now y.reference) ≡ Some c
              → c.level ≡ 0 → All (λ (item : Item). Within dims item.bounds y.bounds) c.entries
              → GainsItems dims limit leaf.entries c.entries pairs_now pairs_next)
              → Progress dims limit old next (sole level x) right (left_beside dims limit (j + 1))
              (nodes_beside dims limit (j + 1)) (1 - (j + 1)) pairs pairs_next
          unfolding below_of beside_of second_stands
          leaves_joined meets few next pairs_next asks looks adds = record {
            asks = asks_in_turn old now next None so_far.asks asks;
            added = λ h s t first second e e' f.
                let b = below_of s first in
                let c = beside_of t second in
                let m : PageMap = pages old in
                let at = second_stands now (no_call_asks now) h t second in
                let outer =
                subst (Encloses dims) c.head_is
                (Encloses-row_head dims (row_drop j t) (Encloses-row_drop dims j t e')) in
                let stands = subst (λ (l : ℕ). RowStands dims m l b.below) levels.0 b.stands.below in
                let stands' = subst (λ (l : ℕ). RowStands dims m l c.below) levels.1 c.stands.below in
                let items : row_items b.below ≡ leaf.entries =
                ap row_items
                (sym
                (opened_here (level - 1) (right.level - 1) x.bounds x.reference b.below
                (omega (arith, levels.0, levels.1))))
                ∙ entries_are h b.below b.stands in
                let found =
                adds (so_far.asks.gate.honest.0 h)
                (record { level = right.level - 1; entries = row_items c.below }) at.1.node levels.1
                (items_within dims m y.bounds c.below stands' outer.0) f in
                let same =
                opened_sum dims limit f 0 0 s (row_drop j t) x y b.below c.below b.head_is c.head_is
                ∙ ap (total f) (leaves_near dims limit m b.below c.below stands stands')
                ∙ ap (λ (l : List Item). total f (flat_map (pairs_of dims limit (row_items c.below)) l)) items
                in
                omega (
                  arith,
                  so_far.added h s t first second e e' f,
                  left_next dims limit j f s t,
                  found,
                  same,
                );
            looked = λ h s t first second.
                let b = below_of s first in
                let c = beside_of t second in
                let fewer =
                opened_pairs dims limit (level - 1) (right.level - 1) s (row_drop j t) x y b.below
                c.below b.head_is c.head_is meets in
                omega (
                  arith,
                  so_far.looked h s t first second,
                  nodes_next dims limit j s t,
                  fewer,
                  looks,
                  few,
                );
          }

    -- so are all entries from one place on to another
    passed_to : (j k n : ℕ) → j + n ≡ k
        → Progress dims limit old now (sole level x) right (left_beside dims limit j)
        (nodes_beside dims limit j) ahead pairs pairs_now
        → k ≤ length right.entries
        → ((p : ℕ) → j ≤ p → p < k → near_test dims limit x.bounds (box_at right.entries p) ≡ false)
        → Progress dims limit old now (sole level x) right (left_beside dims limit k)
        (nodes_beside dims limit k) ahead pairs pairs_now
    passed_to j k zero reach so_far within apart =
        let same : j ≡ k = omega (arith, reach) in
        subst (λ (p : ℕ). Progress dims limit old now (sole level x) right (left_beside dims limit p)
        (nodes_beside dims limit p) ahead pairs pairs_now) same so_far
    passed_to j k (suc n) reach so_far within apart =
        let last : j + n < k = omega (arith, reach) in
        let before =
        passed_to j (j + n) n refl so_far (omega (arith, within, last))
        (λ p low high. apart p low (omega (arith, high, last))) in
        let y : Item = get_or right.entries (j + n) no_item in
        let there : (t : Row) → row_items t ≡ right.entries
        → row_items (row_drop (j + n) t) ≡ y ∷ drop (j + n + 1) right.entries =
        λ t same. items_from t right.entries (j + n) y same (omega (arith, within, last))
        (get_or_default right.entries (j + n) no_item y (omega (arith, within, last))) in
        let step =
        passed_over (j + n) before y (drop (j + n + 1) right.entries) there
        (apart (j + n) (omega arith) last) in
        let next : j + n + 1 ≡ k = omega (arith, reach) in
        subst (λ (p : ℕ). Progress dims limit old now (sole level x) right (left_beside dims limit p)
        (nodes_beside dims limit p) ahead pairs pairs_now) next step

    -- the next entry that a mask names, after which the loop goes on, and the end of them
    module _ (j mask : ℕ)
        (so_far : Progress dims limit old now (sole level x) right (left_beside dims limit j)
        (nodes_beside dims limit j) ahead pairs pairs_now)
        (told : Tells (near_test dims limit x.bounds) mask right.entries) where
      pub next_reached : (k : ℕ) → j ≤ k → k ≤ length right.entries
          → ((p : ℕ) → j ≤ p → p < k → has_bit mask p ≡ false)
          → Progress dims limit old now (sole level x) right (left_beside dims limit k)
          (nodes_beside dims limit k) ahead pairs pairs_now
      next_reached k order within clear =
          passed_to j k (k - j) (omega (arith, order)) so_far within
          (λ p low high. sym (told.told p (omega (arith, within, high))) ∙ clear p low high)

      pub end_added : j ≤ length right.entries → ((p : ℕ) → j ≤ p → has_bit mask p ≡ false) → IsHonest old
          → (s t : Row) → HasRow dims (pages old) (sole level x) s → HasRow dims (pages old) right t
          → Encloses dims s → Encloses dims t → GainsPairs dims limit s t pairs pairs_now
      end_added within clear =
          beside_added (length right.entries)
          (next_reached (length right.entries) within (omega arith) (λ p low high. clear p low)) (omega arith)

      pub end_looked : ahead ≡ 0 → IsHonest old → (s t : Row) → HasRow dims (pages old) (sole level x) s
          → HasRow dims (pages old) right t
          → looks_of now ≤ looks_of old + 2 * pairs_below dims limit s t
      end_looked none h s t first second = omega (arith, so_far.looked h s t first second, none)

  -- an entry whose box meets none of the other node's has no pairs below it
  pub nothing_near : {dims : ℕ} (limit : ℕ) (old : PageCache B A m) (level : ℕ) (x : Item)
      (right : NodeContent) (pairs : List (ℕ × ℕ)) (mask : ℕ)
      → Tells (near_test dims limit x.bounds) mask right.entries → ((p : ℕ) → 0 ≤ p → has_bit mask p ≡ false)
      → IsHonest old → (s t : Row) → HasRow dims (pages old) (sole level x) s
      → HasRow dims (pages old) right t → Encloses dims s → Encloses dims t
      → GainsPairs dims limit s t pairs pairs
  nothing_near {dims} limit old level x right pairs mask told clear =
      let so_far : Progress dims limit old old (sole level x) right (left_beside dims limit 0)
      (nodes_beside dims limit 0) 0 pairs pairs = beside_begins (no_call_asks old) (omega arith) refl in
      end_added 0 mask so_far told (omega arith) clear
