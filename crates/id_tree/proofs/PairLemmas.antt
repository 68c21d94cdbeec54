-- Two children next to one another, one of which is on the way to an identifier.
use Rattle.std.proofs.Common.{◌≡◌, ◌∙◌, ℕ, ◌+◌, ◌-◌, ◌<◌, ◌≤◌, ◌&&◌, ◌==◌, Bool, cond, eqb, Some, List, []}
use Rattle.std.proofs.Common.{◌∷◌, ◌++◌, length, get_or, refl, sym, ap, subst, ⊎_elim, arith}
use Rattle.std.proofs.Common.{length-append}
use Rattle.std.proofs.lemmas.Bool.{cases_eq}
use Rattle.std.proofs.lemmas.List.{get_or-append-add}
use Rattle.bucket_page.specs.Layout.{Entry}
use Rattle.id_page.specs.Fork.{Link, fork_at}
use Rattle.id_words.specs.Objects.{times_in}
use Rattle.id_words.proofs.ObjectLemmas.{times-append}
use Rattle.node_page.specs.Standing.{PageMap}
use Rattle.id_tree.specs.Joining.{AreApart, AreNeighbours, AtPair, IsBeside, IsPair, MayMeet}
use Rattle.id_tree.specs.Rows.{At, NodeStands, Passes, Stops, joined, part_at}
use Rattle.id_tree.specs.Tree.{IsFilled, IsParted, Row, end, more, object, child, RowStands, at_edge}
use Rattle.id_tree.specs.Tree.{links_of, objects_in, occurs}
use Rattle.id_tree.proofs.NodeLemmas.{node_there, occurs_here}
use Rattle.id_tree.proofs.ObjectLemmas.{all_left}
use Rattle.id_tree.proofs.RowLemmas.{between, filled-behind, joined-joined, links-joined, objects-joined}
use Rattle.id_tree.proofs.RowLemmas.{occurs-joined, parted-behind, stands-behind}
use Rattle.id_tree.proofs.WayLemmas.{edge_of, links_here, on_front, on_tail, parted_tail, place_here}

-- ---- a pair from the way

-- the last child of a row
record LastChild (row : Row) : Type 0 where
  pub front : Row
  pub key : ℕ
  pub page : ℕ
  pub below : Row
  pub is : row ≡ joined front (more (child key page below) end)

last_child : (dims : ℕ) (pages : PageMap) (level : ℕ) (row : Row) → 0 < level → RowStands dims pages level row
    → 0 < length (links_of row) → LastChild row
last_child dims pages level end high stands some = absurd (omega (arith, some))
last_child dims pages level (more (object id kept) rest) high stands some =
    absurd (omega (arith, high, stands.0))
last_child dims pages level (more (child key page below) end) high stands some =
    record { front = end; key = key; page = page; below = below; is = refl }
last_child dims pages level (more (child key page below) (more (object id kept) rest)) high stands some =
    absurd (omega (arith, high, stands.5.0))
last_child dims pages level (more (child key page below) (more (child k p b) rest)) high stands some =
    let later = last_child dims pages level (more (child k p b) rest) high stands.5 (omega arith) in
    record {
      front = more (child key page below) later.front;
      key = later.key;
      page = later.page;
      below =
          later.below;
      is = ap (λ (r : Row). more (child key page below) r) later.is;
    }

-- the way passes those before a child that it passes
passes_less : (dims : ℕ) (pages : PageMap) (level id key' key page : ℕ) (front below : Row) → 0 < level
    → RowStands dims pages level front → Passes id (joined front (more (child key page below) end)) key'
    → Passes id front key
passes_less dims pages level id key' key page end below high stands passes = tt
passes_less dims pages level id key' key page (more (object i o) f) below high stands passes =
    absurd (omega (arith, high, stands.0))
passes_less dims pages level id key' key page (more (child k p b) end) below high stands passes =
    (passes.0, tt)
passes_less dims pages level id key' key page (more (child k p b) (more (object i o) f)) below high stands
    passes = absurd (omega (arith, high, stands.5.0))
passes_less dims pages level id key' key page (more (child k p b) (more (child k' p' b') f)) below high stands
    passes = (
      passes.0,
      passes_less dims pages level id key' key page (more (child k' p' b') f) below high stands.5
          passes.1,
    )

-- the way that stops before a child stops before the next one
stops_later : (dims : ℕ) (pages : PageMap) (level id key page k p : ℕ) (below b rest : Row) → 0 < level
    → RowStands dims pages level (more (child k p b) rest)
    → IsParted (more (child key page below) (more (child k p b) rest)) → id < k → Stops id rest
stops_later dims pages level id key page k p below b end high stands parted less = tt
stops_later dims pages level id key page k p below b (more (object i o) r) high stands parted less = tt
stops_later dims pages level id key page k p below b (more (child k' p' b') r) high stands parted less =
    let next : k < k' = between k k' (objects_in b) stands.2
    (all_left (λ (o : Entry). k ≤ o.0) (objects_in b) (objects_in b' ++ objects_in r) parted.1.1)
    parted.2.1.0 in
    omega (arith, less, next)

-- a pair in a place
pub record PairAt (id : ℕ) (row : Row) (left : ℕ) : Type 0 where
  pub first : ℕ
  pub second : ℕ
  pub at : AtPair id first second row
  pub left_is : left ≡ length (links_of at.front)

module _ (dims : ℕ) (pages : PageMap) (page level : ℕ) (edge : Bool) (id p : ℕ) (row : Row) (high : 0 < level)
    (s : NodeStands dims pages page level edge row) (way : At id p row) where
  -- a child and the one behind it
  pub pair_behind : (left : ℕ) → left ≡ length (links_of way.front) → 0 < length (links_of way.rest)
      → PairAt id row left
  pair_behind left at some =
      by_rest way.rest some way.stops way.is (on_tail dims pages page level edge id p row high s way)
      (parted_tail dims pages page level edge id p row high s way)
    where
      by_rest : (rest : Row) → 0 < length (links_of rest) → Stops id rest
          → row ≡ joined way.front (more (child way.key p way.below) rest)
          → RowStands dims pages level (more (child way.key p way.below) rest)
          → IsParted (more (child way.key p way.below) rest) → PairAt id row left
      by_rest end some stops is stands parted = absurd (omega (arith, some))
      by_rest (more (object i o) r) some stops is stands parted = absurd (omega (arith, high, stands.5.0))
      by_rest (more (child k q b) r) some stops is stands parted = record {
        first = p;
        second = q;
        at = record {
          front = way.front;
          key = way.key;
          one = way.below;
          between = k;
          two = b;
          rest = r;
          is = is;
          passes = way.passes;
          stops = stops_later dims pages level id way.key p k q way.below b r high stands.5 parted stops;
        };
        left_is = at;
      }

  -- a child and the one before it
  pub pair_before : (left : ℕ) → length (links_of way.front) ≡ left + 1 → PairAt id row left
  pair_before left long =
      let stands = on_front dims pages page level edge id p row high s way in
      let last = last_child dims pages level way.front high stands (omega (arith, long)) in
      let tail : Row = more (child way.key p way.below) way.rest in
      let split : RowStands dims pages level
      (joined last.front (more (child last.key last.page last.below) end)) =
      subst (RowStands dims pages level) last.is stands in
      let sum =
      ap length
      (ap links_of last.is ∙ links-joined last.front (more (child last.key last.page last.below) end)) in
      record {
        first = last.page;
        second = p;
        at = record {
          front = last.front;
          key = last.key;
          one = last.below;
          between = way.key;
          two = way.below;
          rest = way.rest;
          is = way.is ∙ ap (λ (f : Row). joined f (more (child way.key p way.below) way.rest)) last.is
              ∙ joined-joined last.front (more (child last.key last.page last.below) end)
              (more (child way.key p way.below) way.rest);
          passes = passes_less dims pages level id way.key last.key last.page last.front last.below high
              (stands_before last.front last.key last.page last.below split)
              (subst (λ f. Passes id f way.key) last.is way.passes);
          stops = way.stops;
        };
        left_is = omega (arith, sum, long, length-append (links_of last.front) ((last.key, last.page) ∷ []));
      }
    where
      stands_before : (front : Row) (k q : ℕ) (b : Row)
          → RowStands dims pages level (joined front (more (child k q b) end))
          → RowStands dims pages level front
      stands_before end k q b a = tt
      stands_before (more (object i o) r) k q b a = (a.0, stands_before r k q b a.1)
      stands_before (more (child k' q' b') r) k q b a = (a.0, a.1, a.2, a.3, a.4, stands_before r k q b a.5)

-- ---- what a pair is

module _ (dims : ℕ) (pages : PageMap) (page level : ℕ) (edge : Bool) (row : Row) (id first second : ℕ)
    (high : 0 < level) (s : NodeStands dims pages page level edge row) (at : AtPair id first second row) where
  tail : Row
  tail = more (child at.key first at.one) (more (child at.between second at.two) at.rest)

  pub tail_stands : RowStands dims pages level
      (more (child at.key first at.one) (more (child at.between second at.two) at.rest))
  tail_stands = stands-behind dims pages level at.front
      (more (child at.key first at.one) (more (child at.between second at.two) at.rest))
      (subst (RowStands dims pages level) at.is s.below)

  tail_parted : IsParted (more (child at.key first at.one) (more (child at.between second at.two) at.rest))
  tail_parted =
      parted-behind at.front
      (more (child at.key first at.one) (more (child at.between second at.two) at.rest))
      (subst IsParted at.is s.parted)

  tail_filled : IsFilled dims level edge
      (more (child at.key first at.one) (more (child at.between second at.two) at.rest))
  tail_filled = filled-behind dims level edge at.front
      (more (child at.key first at.one) (more (child at.between second at.two) at.rest))
      (subst (IsFilled dims level edge) at.is s.filled)

  pub pair_counted : (n : ℕ) → part_at page row n ≡ cond (eqb page n) 1
      0 + (occurs n at.front + (part_at first at.one n + (part_at second at.two n + occurs n at.rest)))
  pair_counted n =
      omega (
        arith,
        occurs-joined n at.front
            (more (child at.key first at.one) (more (child at.between second at.two) at.rest)),
        ap (occurs n) at.is,
      )

  pub pair_objects : objects_in row ≡ objects_in
      at.front ++ (objects_in at.one ++ (objects_in at.two ++ objects_in at.rest))
  pair_objects = ap objects_in at.is ∙ objects-joined at.front
      (more (child at.key first at.one) (more (child at.between second at.two) at.rest))

  pub pair_links : links_of row ≡ links_of at.front ++ (at.key, first) ∷ (at.between, second) ∷ links_of
      at.rest
  pair_links = ap links_of at.is ∙ links-joined at.front
      (more (child at.key first at.one) (more (child at.between second at.two) at.rest))

  pub pair_long : length (links_of row) ≡ length (links_of at.front) + (2 + length (links_of at.rest))
  pair_long =
      omega (
        arith,
        ap length pair_links,
        length-append (links_of at.front)
            ((at.key, first) ∷ (at.between, second) ∷ links_of at.rest),
      )

  pub first_link : (left : ℕ) (other : Link) → left ≡ length (links_of at.front)
      → get_or (links_of row) left other ≡ (at.key, first)
  first_link left other is =
      ap (λ (xs : List Link). get_or xs left other) pair_links
      ∙ ap (λ k. get_or (links_of at.front ++ (at.key, first) ∷ (at.between, second) ∷ links_of at.rest) k
      other) (plus_none left (length (links_of at.front)) is)
      ∙ get_or-append-add (links_of at.front) ((at.key, first) ∷ (at.between, second) ∷ links_of at.rest) 0
      other
    where
      plus_none : (n m : ℕ) → n ≡ m → n ≡ m + 0
      plus_none n m is = omega arith

  pub second_link : (left : ℕ) (other : Link) → left ≡ length (links_of at.front)
      → get_or (links_of row) (left + 1) other ≡ (at.between, second)
  second_link left other is =
      ap (λ (xs : List Link). get_or xs (left + 1) other) pair_links
      ∙ ap (λ k. get_or (links_of at.front ++ (at.key, first) ∷ (at.between, second) ∷ links_of at.rest)
      (k + 1) other) is
      ∙ get_or-append-add (links_of at.front) ((at.key, first) ∷ (at.between, second) ∷ links_of at.rest) 1
      other

  -- the edge, as the count tells
  pub pair_last : (left count : ℕ) → left ≡ length (links_of at.front) → count ≡ length (links_of row)
      → (edge && (left + 1 + 1 == count)) ≡ at_edge edge at.rest
  pair_last left count left_is all = edge_of dims pages level high at.rest edge (left + 1) count
      tail_stands.5.5 (omega (arith, all, left_is, pair_long))

  pub neighbours : ((q : ℕ) → times_in q (objects_in row) ≤ 1)
      → AreNeighbours dims pages (level - 1) (at_edge edge at.rest) first second at.between at.one at.two
  neighbours single = record {
    one_stands =
        record {
          low = tail_stands.1;
          node = tail_stands.3;
          below = tail_stands.4;
          parted =
              tail_parted.0;
          filled = tail_filled.1;
          once = λ n. omega (arith, pair_counted n, s.once n);
        };
    two_stands =
        record {
          low = tail_stands.5.1;
          node = tail_stands.5.3;
          below = tail_stands.5.4;
          parted =
              tail_parted.2.0;
          filled = tail_filled.2.1;
          once = λ n. omega (arith, pair_counted n, s.once n);
        };
    one_some = tail_stands.2;
    two_some = tail_stands.5.2;
    one_large = tail_filled.0 refl;
    two_large = tail_filled.2.0;
    lesser = tail_parted.1.0;
    from = all_left (λ (o : Entry). at.between ≤ o.0) (objects_in at.two) (objects_in at.rest)
        tail_parted.1.1;
    single = λ q. omega (
      arith,
      single q,
      ap (times_in q) pair_objects,
      times-append q (objects_in at.front) (objects_in at.one ++ (objects_in at.two ++ objects_in at.rest)),
      times-append q (objects_in at.one) (objects_in at.two ++ objects_in at.rest),
      times-append q (objects_in at.two) (objects_in at.rest),
      times-append q (objects_in at.one) (objects_in at.two),
    );
    once = λ n. omega (arith, pair_counted n, s.once n);
  }

  here : (p : ℕ) → ◌≡◌ {A = ℕ} (cond (eqb p p) 1 0) 1
  here p = occurs_here p

  -- three pages that are live, and no two of them the same
  pub pages_apart : AreApart pages page first second
  pages_apart = record {
    both = record {
      first_live = node_there dims pages first (level - 1) at.one tail_stands.3;
      second_live = node_there dims pages second (level - 1) at.two tail_stands.5.3;
      apart = λ is.
          let two : ◌≡◌ {A = ℕ} (cond (eqb second first) 1 0) 1 = ap (λ k. cond (eqb k first) 1 0) (sym is)
          ∙ here first in
          omega (arith, here first, two, pair_counted first, s.once first);
      low = tail_stands.5.1;
    };
    live = node_there dims pages page level row s.node;
    not_first = λ is.
        let two : ◌≡◌ {A = ℕ} (cond (eqb first page) 1 0) 1 = ap (λ k. cond (eqb k page) 1 0) (sym is)
        ∙ here page in
        omega (arith, here page, two, pair_counted page, s.once page);
    not_second = λ is.
        let two : ◌≡◌ {A = ℕ} (cond (eqb second page) 1 0) 1 = ap (λ k. cond (eqb k page) 1 0) (sym is)
        ∙ here page in
        omega (arith, here page, two, pair_counted page, s.once page);
  }

-- what the code reads of a pair
pub is_pair : (dims level : ℕ) (edge : Bool) (row : Row) (id : ℕ) (fork : List ℕ) (left first second key : ℕ)
    (last : Bool) → (pair : PairAt id row left) → fork_at dims fork ≡ Some
    (record { level = level; links = links_of row })
    → first ≡ pair.first → second ≡ pair.second → key ≡ pair.at.between → last ≡ at_edge edge pair.at.rest
    → IsPair dims level edge row id fork left first second key last
is_pair dims level edge row id fork left first second key last pair fork_is first_is second_is key_is
    last_is =
    subst (λ p. IsPair dims level edge row id fork left p second key last) (sym first_is)
    (subst (λ p. IsPair dims level edge row id fork left pair.first p key last) (sym second_is)
    (record { at = pair.at; fork_is = fork_is; left_is = pair.left_is; key_is = key_is; last_is = last_is }))

-- the pair in a place and the next one, of which one is on the way
pub pair_in : (dims : ℕ) (pages : PageMap) (page level : ℕ) (edge : Bool) (row : Row) (id q place left : ℕ)
    → MayMeet dims pages page level edge row id q place → IsBeside left place row → PairAt id row left
pair_in dims pages page level edge row id q place left may beside =
    let at = place_here dims pages page level edge id q row may.high may.stands may.way in
    let links = ap length (links_here dims pages page level edge id q row may.high may.stands may.way) in
    let sum = length-append (links_of may.way.front) ((may.way.key, q) ∷ links_of may.way.rest) in
    ⊎_elim
    (λ (here : left ≡ place).
    pair_behind dims pages page level edge id q row may.high may.stands may.way left
    (omega (arith, at, may.place_is, here))
    (omega (arith, at, may.place_is, here, links, sum, beside.within)))
    (λ (other : ¬ (left ≡ place)).
    pair_before dims pages page level edge id q row may.high may.stands may.way left
    (omega (arith, at, may.place_is, beside.from, beside.upto, other)))
    (cases_eq left place)

pub place_under : (dims : ℕ) (pages : PageMap) (page level : ℕ) (edge : Bool) (row : Row) (id q place : ℕ)
    → MayMeet dims pages page level edge row id q place → place < length (links_of row)
place_under dims pages page level edge row id q place may =
    let at = place_here dims pages page level edge id q row may.high may.stands may.way in
    let links = ap length (links_here dims pages page level edge id q row may.high may.stands may.way) in
    omega (
      arith,
      at,
      may.place_is,
      links,
      length-append (links_of may.way.front)
          ((may.way.key, q) ∷ links_of may.way.rest),
    )

-- the child in a place and the one before it, or behind it where it is the first one
pub beside_left : {dims : ℕ} {pages : PageMap} {page level : ℕ} {edge : Bool} {row : Row}
    {id q place left : ℕ} → MayMeet dims pages page level edge row id q place → (place ≡ 0 → left ≡ 0)
    → (0 < place → left + 1 ≡ place) → IsBeside left place row
beside_left {dims} {pages} {page} {level} {edge} {row} {id} {q} {place} {left} may first later =
    let within = place_under dims pages page level edge row id q place may in
    ⊎_elim
    (λ (none : place ≡ 0). let zero = first none in
    record { from = omega arith; upto = omega arith; within = omega (arith, zero, may.wide) })
    (λ (some : ¬ (place ≡ 0)). let before : left + 1 ≡ place = later (omega (arith, some)) in
    record { from = omega arith; upto = omega arith; within = omega (arith, before, within) })
    (cases_eq place 0)
