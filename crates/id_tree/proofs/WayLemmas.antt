-- The child of a node where an identifier is, and a node of which that child changed.
use Rattle.std.proofs.Common.{◌≡◌, ◌∙◌, ℕ, ◌+◌, ◌-◌, ◌<◌, ◌≤◌, ◌&&◌, ◌==◌, Bool, true, false, cond, eqb, Some}
use Rattle.std.proofs.Common.{None, [], ◌∷◌, ◌++◌, length, All, refl, sym, ap, subst, arith, length-append}
use Rattle.std.proofs.lemmas.List.{append-nil}
use Rattle.std.proofs.lemmas.Bool.Decides.{nat_tests}
use Rattle.id_page.specs.Fork.{route, route_place}
use Rattle.node_page.specs.Standing.{PageMap}
use Rattle.node_page.proofs.PartLemmas.{moves_same}
use Rattle.id_words.specs.Objects.{kept_in, times_in}
use Rattle.id_words.proofs.ObjectLemmas.{times-append}
use Rattle.id_tree.specs.Rows.{At, Begins, NodeStands, Passes, Stops, joined, part_at}
use Rattle.id_tree.specs.Steps.{Becomes, Step, Turns}
use Rattle.id_tree.specs.Tree.{IsFilled, IsLarge, IsParted, Row, end, more, object, child, RowStands, at_edge}
use Rattle.id_tree.specs.Tree.{links_of, objects_in, occurs}
use Rattle.id_tree.proofs.NodeLemmas.{occurs_here}
use Rattle.id_tree.proofs.ObjectLemmas.{none_behind, none_below, none_from, or_else, kept-append}
use Rattle.id_tree.proofs.ObjectLemmas.{turns_within}
use Rattle.id_tree.proofs.RowLemmas.{at_route, filled-behind, front_below, links-joined, objects-joined}
use Rattle.id_tree.proofs.RowLemmas.{occurs-joined, parted-behind, passes_last, place_of_way, stands-behind}
use Rattle.id_tree.proofs.RowLemmas.{stands-front}
use Rattle.id_tree.proofs.SwapLemmas.{KeepsBounds, Swaps, swapped, swapped_as_is}

-- a node became another one, with the same children at the same keys
pub record TurnsChild (dims : ℕ) (old new : PageMap) (page level : ℕ) (edge : Bool) (row : Row) (id : ℕ)
    (step : Step) : Type 0 where
  pub becomes : Becomes dims old new page level edge row id step
  pub links : links_of becomes.now ≡ links_of row

pub stops_before : (id key : ℕ) (rest : Row) → Stops id rest → Begins key rest → id < key
stops_before id key end stops begins = absurd begins
stops_before id key (more (object i o) r) stops begins = absurd begins
stops_before id key (more (child k p b) r) stops begins = omega (arith, stops, begins)

-- the child in a place is at the edge, if the node is, where so many are behind it
module _ (dims : ℕ) (pages : PageMap) (level : ℕ) (high : 0 < level) where
  is_end : (place count : ℕ) → count ≡ place + 1 → (place + 1 == count) ≡ true
  is_end place count all = grind (arith, nat_tests)

  no_end : (place count others : ℕ) → count ≡ place + 1 + (1 + others) → (place + 1 == count) ≡ false
  no_end place count others all = grind (arith, nat_tests)

  and_true : (e b : Bool) → b ≡ true → (e && b) ≡ e
  and_true true b is = is
  and_true false b is = refl

  and_false : (e b : Bool) → b ≡ false → (e && b) ≡ false
  and_false true b is = is
  and_false false b is = refl

  pub edge_of : (rest : Row) (e : Bool) (place count : ℕ) → RowStands dims pages level rest
      → count ≡ place + 1 + length (links_of rest) → (e && (place + 1 == count)) ≡ at_edge e rest
  edge_of end e place count stands all = and_true e (place + 1 == count)
      (is_end place count (omega (arith, all)))
  edge_of (more (object i o) r) e place count stands all = absurd (omega (arith, high, stands.0))
  edge_of (more (child k q b) r) e place count stands all =
      and_false e (place + 1 == count) (no_end place count (length (links_of r)) (omega (arith, all)))

module _ (dims : ℕ) (pages : PageMap) (page level : ℕ) (edge : Bool) (id p : ℕ) (row : Row) (high : 0 < level)
    (s : NodeStands dims pages page level edge row) (way : At id p row) where
  pub stands_all : RowStands dims pages level (joined way.front (more (child way.key p way.below) way.rest))
  stands_all = subst (RowStands dims pages level) way.is s.below

  parted_all : IsParted (joined way.front (more (child way.key p way.below) way.rest))
  parted_all = subst IsParted way.is s.parted

  pub on_front : RowStands dims pages level way.front
  on_front = stands-front dims pages level way.front (more (child way.key p way.below) way.rest) stands_all

  pub on_tail : RowStands dims pages level (more (child way.key p way.below) way.rest)
  on_tail = stands-behind dims pages level way.front (more (child way.key p way.below) way.rest) stands_all

  pub parted_tail : IsParted (more (child way.key p way.below) way.rest)
  parted_tail = parted-behind way.front (more (child way.key p way.below) way.rest) parted_all

  pub filled_tail : IsFilled dims level edge (more (child way.key p way.below) way.rest)
  filled_tail = filled-behind dims level edge way.front (more (child way.key p way.below) way.rest)
      (subst (IsFilled dims level edge) way.is s.filled)

  pub counted : (n : ℕ) → part_at page row n ≡ cond (eqb page n) 1
      0 + (occurs n way.front + (part_at p way.below n + occurs n way.rest))
  counted n =
      omega (
        arith,
        occurs-joined n way.front (more (child way.key p way.below) way.rest),
        ap (occurs n)
            way.is,
      )

  pub objects_here : objects_in row ≡ objects_in way.front ++ (objects_in way.below ++ objects_in way.rest)
  objects_here = ap objects_in way.is ∙ objects-joined way.front (more (child way.key p way.below) way.rest)

  pub links_here : links_of row ≡ links_of way.front ++ (way.key, p) ∷ links_of way.rest
  links_here = ap links_of way.is ∙ links-joined way.front (more (child way.key p way.below) way.rest)

  pub child_stands : NodeStands dims pages p (level - 1) (at_edge edge way.rest) way.below
  child_stands = record {
    low = on_tail.1;
    node = on_tail.3;
    below = on_tail.4;
    parted = parted_tail.0;
    filled = filled_tail.1;
    once = λ n. omega (arith, counted n, s.once n);
  }

  pub child_large : at_edge edge way.rest ≡ false → IsLarge dims (level - 1) way.below
  child_large = filled_tail.0

  pub some_below : 0 < length (objects_in way.below)
  some_below = on_tail.2

  pub page_apart : ¬ (page ≡ p)
  page_apart is =
      let one : ◌≡◌ {A = ℕ} (cond (eqb page page) 1 0) 1 = occurs_here page in
      let two : ◌≡◌ {A = ℕ} (cond (eqb p page) 1 0) 1 = ap (λ k. cond (eqb k page) 1 0) (sym is)
      ∙ occurs_here page in
      omega (arith, one, two, counted page, s.once page)

  -- those before and behind do not have the identifier
  pub none_before : kept_in id (objects_in way.front) ≡ None
  none_before = by_front way.front on_front parted_all way.passes
    where
      by_front : (front : Row) → RowStands dims pages level front
          → IsParted (joined front (more (child way.key p way.below) way.rest)) → Passes id front way.key
          → kept_in id (objects_in front) ≡ None
      by_front end stands parted passes = refl
      by_front (more (object i o) r) stands parted passes = absurd (omega (arith, high, stands.0))
      by_front (more (child k q b) r) stands parted passes =
          none_below id way.key (objects_in (more (child k q b) r))
          (front_below dims pages level way.key (more (child k q b) r)
          (more (child way.key p way.below) way.rest) high stands refl parted)
          (passes_last dims pages level id way.key k q b r high stands.5 passes)

  pub none_after : kept_in id (objects_in way.rest) ≡ None
  none_after = by_rest way.rest way.stops parted_tail on_tail.5
    where
      by_rest : (rest : Row) → Stops id rest → IsParted (more (child way.key p way.below) rest)
          → RowStands dims pages level rest → kept_in id (objects_in rest) ≡ None
      by_rest end stops parted stands = refl
      by_rest (more (object i o) r) stops parted stands = absurd (omega (arith, high, stands.0))
      by_rest (more (child k q b) r) stops parted stands =
          none_from id k (objects_in (more (child k q b) r)) parted.1.1 stops

  -- so the child has of it what the node has
  pub same_below : kept_in id (objects_in row) ≡ kept_in id (objects_in way.below)
  unfolding or_else
  same_below =
      ap (kept_in id) objects_here ∙ kept-append id (objects_in way.front)
      (objects_in way.below ++ objects_in way.rest)
      ∙ ap (λ o. or_else o (kept_in id (objects_in way.below ++ objects_in way.rest))) none_before
      ∙ kept-append id (objects_in way.below) (objects_in way.rest)
      ∙ ap (or_else (kept_in id (objects_in way.below))) none_after
      ∙ none_behind (kept_in id (objects_in way.below))

  pub times_below : (q : ℕ) → times_in q (objects_in way.below) ≤ times_in q (objects_in row)
  times_below q = omega (
    arith,
    times-append q (objects_in way.front) (objects_in way.below ++ objects_in way.rest),
    times-append q (objects_in way.below) (objects_in way.rest),
    ap (times_in q) objects_here,
  )

  -- the place of the child, and whether it is at the edge
  pub place_here : length (links_of way.front) ≡ route_place id (links_of row)
  place_here = place_of_way dims pages level id way.key p way.front way.below way.rest high on_front on_tail.5
      way.passes way.stops
      ∙ ap (λ (r : Row). route_place id (links_of r)) (sym way.is)

  pub last_here : (place count : ℕ) → place ≡ route_place id (links_of row) → count ≡ length (links_of row)
      → (edge && (place + 1 == count)) ≡ at_edge edge way.rest
  last_here place count at size =
      let long = ap length links_here in
      let parts = length-append (links_of way.front) ((way.key, p) ∷ links_of way.rest) in
      let here : place ≡ length (links_of way.front) = at ∙ sym place_here in
      let all : count ≡ place + 1 + length (links_of way.rest) = omega (arith, size, long, parts, here) in
      edge_of dims pages level high way.rest edge place count on_tail.5 all

  -- the child became another one by a step of the identifier: so did the node
  unfoldable pub child_turned : (new : PageMap) (step : Step) → (edge ≡ false → IsLarge dims level row)
      → Becomes dims pages new p (level - 1) (at_edge edge way.rest) way.below id step
      → TurnsChild dims pages new page level edge row id step
  child_turned new step large b =
      let was : Row = more (child way.key p way.below) end in
      let turned : Row = more (child way.key p b.now) end in
      let now : Row = joined way.front (more (child way.key p b.now) way.rest) in
      let w : Swaps dims pages new level (at_edge edge way.rest) was turned = record {
        first = way.key;
        began = refl;
        begins = refl;
        stands = (high, on_tail.1, b.some, b.stands.node, b.stands.below, tt);
        parted = (b.stands.parted, tt, tt);
        filled = (b.large, b.stands.filled, tt);
        moves = moves_same pages new (part_at p way.below) (λ n. occurs n was) (part_at p b.now)
            (λ n. occurs n turned) (λ n. omega arith) (λ n. omega arith) b.moves;
      } in
      let k : KeepsBounds way.front was turned way.rest way.key = record {
        below = λ key begins all. above key b.now
            (b.turns.below key (first_part key way.below all)
            (stops_before id key way.rest way.stops begins));
        from = λ q r c l e all. under b.now
            (b.turns.from way.key (first_from way.below all) (passed q r c l e));
      } in
      let sw = swapped dims pages new page level edge row way.front was turned way.rest high way.is s w k in
      let links : links_of now ≡ links_of row = links-joined way.front (more (child way.key p b.now) way.rest)
      ∙ sym links_here in
      let objects : objects_in now ≡ objects_in way.front ++ (objects_in b.now ++ objects_in way.rest) =
      objects-joined way.front (more (child way.key p b.now) way.rest) in
      let turns = turns_within id step (objects_in way.front) (objects_in way.below) (objects_in b.now)
      (objects_in way.rest) none_before none_after b.turns in
      let done : Becomes dims pages new page level edge row id step = record {
        now = now;
        stands = swapped_as_is dims pages new page level edge row now high s links sw;
        turns = subst (λ xs. Turns id step xs (objects_in now)) (sym objects_here)
            (subst (Turns id step (objects_in way.front ++ (objects_in way.below ++ objects_in way.rest)))
            (sym objects) turns);
        some = omega (
          arith,
          b.some,
          ap length objects,
          length-append (objects_in way.front)
              (objects_in b.now ++ objects_in way.rest),
          length-append (objects_in b.now)
              (objects_in way.rest),
        );
        large = λ off. record {
          leaf = λ low. absurd (omega (arith, low, high));
          fork = λ up. omega (arith, (large off).fork up, ap length links);
        };
        wide = omega (arith, ap length links);
        moves = sw.moves;
      } in
      record { becomes = done; links = links }
    where
      first_part : (key : ℕ) (below : Row) → All (λ o. o.0 < key) (objects_in below ++ [])
          → All (λ o. o.0 < key) (objects_in below)
      first_part key below all = subst (λ xs. All (λ o. o.0 < key) xs) (append-nil (objects_in below)) all

      first_from : (below : Row) → All (λ o. way.key ≤ o.0) (objects_in below ++ [])
          → All (λ o. way.key ≤ o.0) (objects_in below)
      first_from below all = subst (λ xs. All (λ o. way.key ≤ o.0) xs) (append-nil (objects_in below)) all

      above : (key : ℕ) (now : Row) → All (λ o. o.0 < key) (objects_in now)
          → All (λ o. o.0 < key) (objects_in now ++ [])
      above key now all = subst (λ xs. All (λ o. o.0 < key) xs) (sym (append-nil (objects_in now))) all

      under : (now : Row) → All (λ o. way.key ≤ o.0) (objects_in now)
          → All (λ o. way.key ≤ o.0) (objects_in now ++ [])
      under now all = subst (λ xs. All (λ o. way.key ≤ o.0) xs) (sym (append-nil (objects_in now))) all

      passed : (q r : ℕ) (c l : Row) → way.front ≡ more (child q r c) l → way.key ≤ id
      passed q r c l e =
          let stands : RowStands dims pages level (more (child q r c) l) =
          subst (RowStands dims pages level) e on_front in
          passes_last dims pages level id way.key q r c l high stands.5
          (subst (λ f. Passes id f way.key) e way.passes)

  unfoldable pub by_child : (new : PageMap) (step : Step) → (edge ≡ false → IsLarge dims level row)
      → Becomes dims pages new p (level - 1) (at_edge edge way.rest) way.below id step
      → Becomes dims pages new page level edge row id step
  by_child new step large b = (child_turned new step large b).becomes

-- the way in a fork
pub way_of : (dims : ℕ) (pages : PageMap) (page level : ℕ) (edge : Bool) (row : Row) (id p : ℕ) → 0 < level
    → NodeStands dims pages page level edge row → Some p ≡ route id (links_of row) → At id p row
way_of dims pages page level edge row id p high s is = at_route dims pages level id p row high s.below is
