-- Rows of children taken apart and put together.
use Rattle.std.proofs.Common.{◌≡◌, ◌∙◌, ℕ, zero, suc, ◌+◌, ◌-◌, ◌<◌, ◌≤◌, Bool, true, false, cond, List, []}
use Rattle.std.proofs.Common.{◌∷◌, ◌++◌, length, get_or, All, Some, rules, refl, sym, ap, subst, ⊎_elim}
use Rattle.std.proofs.Common.{arith, append_assoc}
use Rattle.std.proofs.lemmas.Bool.{cases_lt}
use Rattle.std.proofs.lemmas.List.Elements.{All-append, All-head, All-weaker}
use Rattle.node_page.specs.Standing.{PageMap}
use Rattle.bucket_page.specs.Layout.{Entry}
use Rattle.id_page.specs.Fork.{AreAscending, Link, child_from, passed_from, route, route_place}
use Rattle.id_page.proofs.Ways.{is_from, is_less}
use Rattle.id_tree.specs.Rows.{At, Begins, Passes, Stops, joined, next_key}
use Rattle.id_tree.specs.Tree.{IsFilled, IsParted, Row, end, more, object, child, RowStands, links_of}
use Rattle.id_tree.specs.Tree.{objects_in, occurs}
use Rattle.id_tree.proofs.ObjectLemmas.{all_left, all_right}

-- ---- two rows one after the other

pub objects-joined : (front behind : Row) → objects_in (joined front behind) ≡ objects_in front ++ objects_in
    behind
objects-joined end behind = refl
objects-joined (more (object id kept) rest) behind =
    ap (λ (xs : List Entry). (id, kept) ∷ xs) (objects-joined rest behind)
objects-joined (more (child key page below) rest) behind =
    ap (λ (xs : List Entry). objects_in below ++ xs) (objects-joined rest behind)
    ∙ sym (append_assoc (objects_in below) (objects_in rest) (objects_in behind))

pub links-joined : (front behind : Row) → links_of (joined front behind) ≡ links_of front ++ links_of behind
links-joined end behind = refl
links-joined (more (object id kept) rest) behind = links-joined rest behind
links-joined (more (child key page below) rest) behind =
    ap (λ (xs : List Link). (key, page) ∷ xs) (links-joined rest behind)

pub occurs-joined : (n : ℕ) (front behind : Row)
    → occurs n (joined front behind) ≡ occurs n front + occurs n behind
occurs-joined n end behind = omega arith
occurs-joined n (more (object id kept) rest) behind = occurs-joined n rest behind
occurs-joined n (more (child key page below) rest) behind = omega (arith, occurs-joined n rest behind)

pub joined-joined : (a b d : Row) → joined (joined a b) d ≡ joined a (joined b d)
joined-joined end b d = refl
joined-joined (more x a) b d = ap (λ (r : Row). more x r) (joined-joined a b d)

pub joined-end : (a : Row) → joined a end ≡ a
joined-end end = refl
joined-end (more x a) = ap (λ (r : Row). more x r) (joined-end a)

module _ (dims : ℕ) (pages : PageMap) (level : ℕ) where
  pub stands-joined : (front behind : Row) → RowStands dims pages level front
      → RowStands dims pages level behind → RowStands dims pages level (joined front behind)
  stands-joined end behind a b = b
  stands-joined (more (object id kept) rest) behind a b = (a.0, stands-joined rest behind a.1 b)
  stands-joined (more (child key page below) rest) behind a b =
      (a.0, a.1, a.2, a.3, a.4, stands-joined rest behind a.5 b)

  pub stands-front : (front behind : Row) → RowStands dims pages level (joined front behind)
      → RowStands dims pages level front
  stands-front end behind a = tt
  stands-front (more (object id kept) rest) behind a = (a.0, stands-front rest behind a.1)
  stands-front (more (child key page below) rest) behind a =
      (a.0, a.1, a.2, a.3, a.4, stands-front rest behind a.5)

  pub stands-behind : (front behind : Row) → RowStands dims pages level (joined front behind)
      → RowStands dims pages level behind
  stands-behind end behind a = a
  stands-behind (more (object id kept) rest) behind a = stands-behind rest behind a.1
  stands-behind (more (child key page below) rest) behind a = stands-behind rest behind a.5

-- ---- keys

-- between two keys that hold objects there is room
pub between : (a b : ℕ) (xs : List Entry) → 0 < length xs → All (λ o. a ≤ o.0) xs → All (λ o. o.0 < b) xs
    → a < b
between a b [] some from below = absurd (omega (arith, some))
between a b (x ∷ xs) some from below =
    let low : a ≤ x.0 = All-head (λ (o : Entry). a ≤ o.0) x xs from in
    let high : x.0 < b = All-head (λ (o : Entry). o.0 < b) x xs below in
    omega (arith, low, high)

-- a leaf has no keys
pub leaf_parted : (dims : ℕ) (pages : PageMap) (row : Row) → RowStands dims pages 0 row → IsParted row
leaf_parted dims pages end stands = tt
leaf_parted dims pages (more (object id kept) rest) stands = leaf_parted dims pages rest stands.1
leaf_parted dims pages (more (child key page below) rest) stands = absurd (omega (arith, stands.0))

pub parted-behind : (front behind : Row) → IsParted (joined front behind) → IsParted behind
parted-behind end behind a = a
parted-behind (more (object id kept) rest) behind a = parted-behind rest behind a
parted-behind (more (child key page below) rest) behind a = parted-behind rest behind a.2

pub parted-front : (front behind : Row) → IsParted (joined front behind) → IsParted front
parted-front end behind parted = tt
parted-front (more (object id kept) rest) behind parted = parted-front rest behind parted
parted-front (more (child key page below) end) behind parted = (parted.0, tt, tt)
parted-front (more (child key page below) (more (object id kept) rest)) behind parted =
    (parted.0, tt, parted-front (more (object id kept) rest) behind parted.2)
parted-front (more (child key page below) (more (child key' page' below') rest)) behind parted =
    let P = λ (o : Entry). key' ≤ o.0 in
    let whole : All P ((objects_in below' ++ objects_in rest) ++ objects_in behind) =
    subst (λ xs. All P xs) (objects-joined (more (child key' page' below') rest) behind) parted.1.1 in (
      parted.0,
      (parted.1.0, all_left P (objects_in below' ++ objects_in rest) (objects_in behind) whole),
      parted-front (more (child key' page' below') rest) behind parted.2,
    )

-- all objects of the children before one are below its key
pub front_below : (dims : ℕ) (pages : PageMap) (level key : ℕ) (front behind : Row) → 0 < level
    → RowStands dims pages level front → Begins key behind
    → IsParted (joined front behind) → All (λ o. o.0 < key) (objects_in front)
front_below dims pages level key end behind high stands begins parted = search rules
front_below dims pages level key (more (object id kept) l) behind high stands begins parted =
    absurd (omega (arith, high, stands.0))
front_below dims pages level key (more (child k p b) end) end high stands begins parted = absurd begins
front_below dims pages level key (more (child k p b) end) (more (object id kept) r) high stands begins
    parted = absurd begins
front_below dims pages level key (more (child k p b) end) (more (child k' p' b') r) high stands begins
    parted =
    let lesser : All (λ o. o.0 < key) (objects_in b) =
    subst (λ n. All (λ o. o.0 < n) (objects_in b)) begins parted.1.0 in
    All-append (λ (o : Entry). o.0 < key) (objects_in b) [] lesser (search rules)
front_below dims pages level key (more (child k p b) (more (object id kept) l)) behind high stands begins
    parted = absurd (omega (arith, high, stands.5.0))
front_below dims pages level key (more (child k p b) (more (child k' p' b') l)) behind high stands begins
    parted =
    let later = front_below dims pages level key (more (child k' p' b') l) behind high stands.5 begins
    parted.2 in
    let under : k' < key = between k' key (objects_in b') stands.5.2
    (all_left (λ (o : Entry). k' ≤ o.0) (objects_in b') (objects_in (joined l behind)) parted.1.1)
    (all_left (λ (o : Entry). o.0 < key) (objects_in b') (objects_in l) later) in
    All-append (λ (o : Entry). o.0 < key) (objects_in b) (objects_in (more (child k' p' b') l))
    (All-weaker (λ (o : Entry). o.0 < k') (λ (o : Entry). o.0 < key) (λ o lt. omega (arith, lt, under))
    (objects_in b) parted.1.0) later

-- and all from there on are not, where there are children before it
pub behind_from : (dims : ℕ) (pages : PageMap) (level key k p : ℕ) (b front behind : Row) → 0 < level
    → RowStands dims pages level front → Begins key behind
    → IsParted (joined (more (child k p b) front) behind) → All (λ o. key ≤ o.0) (objects_in behind)
behind_from dims pages level key k p b end end high stands begins parted = absurd begins
behind_from dims pages level key k p b end (more (object id kept) r) high stands begins parted = absurd begins
behind_from dims pages level key k p b end (more (child k' p' b') r) high stands begins parted =
    subst (λ n. All (λ o. n ≤ o.0) (objects_in b' ++ objects_in r)) begins parted.1.1
behind_from dims pages level key k p b (more (object id kept) l) behind high stands begins parted =
    absurd (omega (arith, high, stands.0))
behind_from dims pages level key k p b (more (child k' p' b') l) behind high stands begins parted =
    behind_from dims pages level key k' p' b' l behind high stands.5 begins parted.2

-- the objects on both sides of where two rows meet
pub record AreApart (front behind : Row) (key : ℕ) : Type 0 where
  pub lesser : All (λ o. o.0 < key) (objects_in front)
  pub from : All (λ o. key ≤ o.0) (objects_in behind)

-- two rows whose objects a key parts are parted together
pub parted-joined : (dims : ℕ) (pages : PageMap) (level key : ℕ) (front behind : Row) → 0 < level
    → RowStands dims pages level front → Begins key behind
    → IsParted front → IsParted behind
    → ((k p : ℕ) (b l : Row) → front ≡ more (child k p b) l → AreApart front behind key)
    → IsParted (joined front behind)
parted-joined dims pages level key end behind high stands begins on_front on_behind apart = on_behind
parted-joined dims pages level key (more (object id kept) l) behind high stands begins on_front on_behind
    apart = absurd (omega (arith, high, stands.0))
parted-joined dims pages level key (more (child k p b) end) end high stands begins on_front on_behind apart =
    absurd begins
parted-joined dims pages level key (more (child k p b) end) (more (object id kept) r) high stands begins
    on_front on_behind apart = absurd begins
parted-joined dims pages level key (more (child k p b) end) (more (child k' p' b') r) high stands begins
    on_front on_behind apart =
    let both = apart k p b end refl in (
      on_front.0,
      (
        subst (λ n. All (λ o. o.0 < n) (objects_in b)) (sym begins)
            (all_left (λ (o : Entry). o.0 < key) (objects_in b) [] both.lesser),
        subst (λ n. All (λ o. n ≤ o.0) (objects_in b' ++ objects_in r)) (sym begins) both.from,
      ),
      on_behind,
    )
parted-joined dims pages level key (more (child k p b) (more (object id kept) l)) behind high stands begins
    on_front on_behind apart = absurd (omega (arith, high, stands.5.0))
parted-joined dims pages level key (more (child k p b) (more (child k' p' b') l)) behind high stands begins
    on_front on_behind apart =
    let both = apart k p b (more (child k' p' b') l) refl in
    let rest = more (child k' p' b') l in
    let P = λ (o : Entry). k' ≤ o.0 in
    let lesser = all_right (λ (o : Entry). o.0 < key) (objects_in b) (objects_in rest) both.lesser in
    let under : k' < key = between k' key (objects_in b') stands.5.2
    (all_left P (objects_in b') (objects_in l) on_front.1.1)
    (all_left (λ (o : Entry). o.0 < key) (objects_in b') (objects_in l) lesser) in
    let beyond : All P (objects_in behind) = All-weaker (λ (o : Entry). key ≤ o.0) P
    (λ o le. omega (arith, le, under)) (objects_in behind) both.from in
    let whole : All P (objects_in (joined rest behind)) =
    subst (λ xs. All P xs) (sym (objects-joined rest behind))
    (All-append P (objects_in b' ++ objects_in l) (objects_in behind) on_front.1.1 beyond) in (
      on_front.0,
      (on_front.1.0, whole),
      parted-joined dims pages level key (more (child k' p' b') l) behind high stands.5 begins on_front.2
          on_behind (λ k2 p2 b2 l2 is. record { lesser = lesser; from = both.from }),
    )

-- ---- how full the children are

module _ (dims level : ℕ) where
  -- what is filled away from the edge is filled at it
  pub filled_anywhere : (edge : Bool) (row : Row) → IsFilled dims level false row
      → IsFilled dims level edge row
  filled_anywhere true row h = at_true level row h
    where
      at_true : (level : ℕ) (row : Row) → IsFilled dims level false row → IsFilled dims level true row
      at_true level end h = tt
      at_true level (more (object id kept) rest) h = at_true level rest h
      at_true level (more (child key page below) end) h =
          ((λ (never : true ≡ false). absurd (cc)), at_true (level - 1) below h.1, tt)
      at_true level (more (child key page below) (more b rest)) h =
          (h.0, h.1, at_true level (more b rest) h.2)
  filled_anywhere false row h = h

  pub filled-front : (edge : Bool) (front : Row) (b : _) (r : Row)
      → IsFilled dims level edge (joined front (more b r)) → IsFilled dims level false front
  filled-front edge end b r h = tt
  filled-front edge (more (object id kept) l) b r h = filled-front edge l b r h
  filled-front edge (more (child key page below) end) b r h = (h.0, h.1, tt)
  filled-front edge (more (child key page below) (more x l)) b r h =
      (h.0, h.1, filled-front edge (more x l) b r h.2)

  pub filled-behind : (edge : Bool) (front behind : Row) → IsFilled dims level edge (joined front behind)
      → IsFilled dims level edge behind
  filled-behind edge end behind h = h
  filled-behind edge (more (object id kept) l) behind h = filled-behind edge l behind h
  filled-behind edge (more (child key page below) l) behind h = filled-behind edge l behind h.2

  pub filled-joined : (edge : Bool) (front : Row) (b : _) (r : Row) → IsFilled dims level false front
      → IsFilled dims level edge (more b r) → IsFilled dims level edge (joined front (more b r))
  filled-joined edge end b r on_front on_behind = on_behind
  filled-joined edge (more (object id kept) l) b r on_front on_behind =
      filled-joined edge l b r on_front on_behind
  filled-joined edge (more (child key page below) end) b r on_front on_behind =
      (on_front.0, on_front.1, on_behind)
  filled-joined edge (more (child key page below) (more x l)) b r on_front on_behind =
      (on_front.0, on_front.1, filled-joined edge (more x l) b r on_front.2 on_behind)

-- ---- the way to an identifier

-- the first key of a row taken apart
first_key : (id page key p : ℕ) (below rest : Row) → (way : At id page (more (child key p below) rest))
    → next_key way.front way.key ≡ key
first_key id page key p below rest way = from way.front way.key way.below way.rest way.is
  where
    from : (front : Row) (k : ℕ) (b r : Row) → more (child key p below) rest ≡ joined front
        (more (child k page b) r) → next_key front k ≡ key
    from end k b r is = sym (ap (λ (x : Row). next_key x 0) is)
    from (more (object i o) f) k b r is = absurd (cc)
    from (more (child k' p' b') f) k b r is = sym (ap (λ (x : Row). next_key x 0) is)

pub at_from : (dims : ℕ) (pages : PageMap) (level id key page : ℕ) (below rest : Row) → 0 < level
    → RowStands dims pages level rest
    → At id (child_from id page (links_of rest)) (more (child key page below) rest)
at_from dims pages level id key page below end high stands =
    record { front = end; key = key; below = below; rest = end; is = refl; passes = tt; stops = tt }
at_from dims pages level id key page below (more (object id' kept) rest) high stands =
    absurd (omega (arith, high, stands.0))
at_from dims pages level id key page below (more (child key' page' below') rest) high stands = ⊎_elim
    (λ (less : id < key'). subst
    (λ k. At id k (more (child key page below) (more (child key' page' below') rest)))
    (sym (ap (λ (b : Bool). cond b page (child_from id page' (links_of rest))) (is_less id key' less)))
    (record {
      front = end;
      key = key;
      below = below;
      rest = more (child key' page' below') rest;
      is =
          refl;
      passes = tt;
      stops = less;
    }))
    (λ (from : key' ≤ id).
    let later = at_from dims pages level id key' page' below' rest high stands.5 in
    subst (λ k. At id k (more (child key page below) (more (child key' page' below') rest)))
    (sym (ap (λ (b : Bool). cond b page (child_from id page' (links_of rest))) (is_from id key' from)))
    (record {
      front = more (child key page below) later.front;
      key = later.key;
      below = later.below;
      rest = later.rest;
      is = ap (λ (r : Row). more (child key page below) r) later.is;
      passes = (omega (arith, first_key id _ key' page' below' rest later, from), later.passes);
      stops = later.stops;
    }))
    (cases_lt id key')

pub at_route : (dims : ℕ) (pages : PageMap) (level id page : ℕ) (row : Row) → 0 < level
    → RowStands dims pages level row → Some page ≡ route id (links_of row) → At id page row
at_route dims pages level id page end high stands is = absurd (cc)
at_route dims pages level id page (more (object id' kept) rest) high stands is =
    absurd (omega (arith, high, stands.0))
at_route dims pages level id page (more (child key page' below) rest) high stands is =
    let at : child_from id page' (links_of rest) ≡ page = cc in
    subst (λ k. At id k (more (child key page' below) rest)) at
    (at_from dims pages level id key page' below rest high stands.5)

-- a key that the way passes last
pub passes_last : (dims : ℕ) (pages : PageMap) (level id key k p : ℕ) (b front : Row) → 0 < level
    → RowStands dims pages level front → Passes id (more (child k p b) front) key → key ≤ id
passes_last dims pages level id key k p b end high stands passes = passes.0
passes_last dims pages level id key k p b (more (object i o) l) high stands passes =
    absurd (omega (arith, high, stands.0))
passes_last dims pages level id key k p b (more (child k' p' b') l) high stands passes =
    passes_last dims pages level id key k' p' b' l high stands.5 passes.1

-- one child more that the way passes
pub passes-more : (id key key' page : ℕ) (front below : Row) → Passes id front key → key' ≤ id
    → Passes id (joined front (more (child key page below) end)) key'
passes-more id key key' page end below passes le = (le, tt)
passes-more id key key' page (more (object i b) f) below passes le =
    passes-more id key key' page f below passes le
passes-more id key key' page (more (child k p b) end) below passes le = (passes.0, (le, tt))
passes-more id key key' page (more (child k p b) (more (object i b') f)) below passes le =
    (next_still f passes.0, passes-more id key key' page (more (object i b') f) below passes.1 le)
  where
    next_still : (f : Row) → next_key (more (object i b') f) key ≤ id
        → next_key (joined (more (object i b') f) (more (child key page below) end)) key' ≤ id
    next_still f h = le
passes-more id key key' page (more (child k p b) (more (child k' p' b') f)) below passes le =
    (passes.0, passes-more id key key' page (more (child k' p' b') f) below passes.1 le)

-- how far the way goes is how many children it passes
passed_along : (dims : ℕ) (pages : PageMap) (level id key page : ℕ) (f below rest : Row) → 0 < level
    → RowStands dims pages level f → RowStands dims pages level rest → next_key f key ≤ id → Passes id f key
    → Stops id rest
    → passed_from id (links_of (joined f (more (child key page below) rest))) ≡ 1 + length (links_of f)
passed_along dims pages level id key page end below rest high a b le passes stops =
    ap (λ (t : Bool). cond t 0 (1 + passed_from id (links_of rest))) (is_from id key le)
    ∙ ap (λ k. 1 + k) (none_passed rest b stops)
  where
    none_passed : (rest : Row) → RowStands dims pages level rest → Stops id rest
        → passed_from id (links_of rest) ≡ 0
    none_passed end b stops = refl
    none_passed (more (object i o) r) b stops = absurd (omega (arith, high, b.0))
    none_passed (more (child k q o) r) b stops = ap (λ (t : Bool). cond t 0 (1 + passed_from id (links_of r)))
        (is_less id k stops)
passed_along dims pages level id key page (more (object i o) f) below rest high a b le passes stops =
    absurd (omega (arith, high, a.0))
passed_along dims pages level id key page (more (child k q o) f) below rest high a b le passes stops =
    let first =
    ap (λ (t : Bool). cond t 0
    (1 + passed_from id (links_of (joined f (more (child key page below) rest))))) (is_from id k le) in
    omega (
      arith,
      first,
      passed_along dims pages level id key page f below rest high a.5 b passes.0 passes.1
          stops,
    )

pub place_of_way : (dims : ℕ) (pages : PageMap) (level id key page : ℕ) (front below rest : Row) → 0 < level
    → RowStands dims pages level front → RowStands dims pages level rest → Passes id front key → Stops id rest
    → length (links_of front) ≡ route_place id (links_of (joined front (more (child key page below) rest)))
place_of_way dims pages level id key page end below end high a b passes stops = refl
place_of_way dims pages level id key page end below (more (object i o) r) high a b passes stops =
    absurd (omega (arith, high, b.0))
place_of_way dims pages level id key page end below (more (child k q o) r) high a b passes stops =
    sym (ap (λ (t : Bool). cond t 0 (1 + passed_from id (links_of r))) (is_less id k stops))
place_of_way dims pages level id key page (more (object i o) f) below rest high a b passes stops =
    absurd (omega (arith, high, a.0))
place_of_way dims pages level id key page (more (child k q o) f) below rest high a b passes stops =
    omega (arith, passed_along dims pages level id key page f below rest high a.5 b passes.0 passes.1 stops)

-- ---- keys ascend

-- each key behind a child that has objects from its own key on is greater
later_keys : (dims : ℕ) (pages : PageMap) (level key page : ℕ) (below rest : Row) (i : ℕ) (other : Link)
    → 0 < level → RowStands dims pages level (more (child key page below) rest)
    → IsParted (more (child key page below) rest)
    → All (λ o. key ≤ o.0) (objects_in below ++ objects_in rest) → i < length (links_of rest)
    → key < (get_or (links_of rest) i other).0
later_keys dims pages level key page below end i other high stands parted from lt = absurd (omega (arith, lt))
later_keys dims pages level key page below (more (object id kept) rest) i other high stands parted from lt =
    absurd (omega (arith, high, stands.5.0))
later_keys dims pages level key page below (more (child k p b) rest) zero other high stands parted from lt =
    between key k (objects_in below) stands.2
    (all_left (λ (o : Entry). key ≤ o.0) (objects_in below) (objects_in b ++ objects_in rest) from)
    parted.1.0
later_keys dims pages level key page below (more (child k p b) rest) (suc i) other high stands parted from
    lt =
    let next : key < k = between key k (objects_in below) stands.2
    (all_left (λ (o : Entry). key ≤ o.0) (objects_in below) (objects_in b ++ objects_in rest) from)
    parted.1.0 in
    let later = later_keys dims pages level k p b rest i other high stands.5 parted.2 parted.1.1
    (omega (arith, lt)) in
    omega (arith, next, later)

ascend_from : (dims : ℕ) (pages : PageMap) (level key page : ℕ) (below rest : Row) (i k : ℕ) (other : Link)
    → 0 < level → RowStands dims pages level (more (child key page below) rest)
    → IsParted (more (child key page below) rest)
    → All (λ o. key ≤ o.0) (objects_in below ++ objects_in rest) → i < k → k < suc (length (links_of rest))
    → (get_or ((key, page) ∷ links_of rest) i other).0 < (get_or ((key, page) ∷ links_of rest) k other).0
ascend_from dims pages level key page below rest i zero other high stands parted from lt within =
    absurd (omega (arith, lt))
ascend_from dims pages level key page below rest zero (suc k) other high stands parted from lt within =
    later_keys dims pages level key page below rest k other high stands parted from (omega (arith, within))
ascend_from dims pages level key page below end (suc i) (suc k) other high stands parted from lt within =
    absurd (omega (arith, within))
ascend_from dims pages level key page below (more (object id kept) rest) (suc i) (suc k) other high stands
    parted from lt within = absurd (omega (arith, high, stands.5.0))
ascend_from dims pages level key page below (more (child k' p b) rest) (suc i) (suc k) other high stands
    parted from lt within =
    ascend_from dims pages level k' p b rest i k other high stands.5 parted.2 parted.1.1 (omega (arith, lt))
    (omega (arith, within))

pub ascending : (dims : ℕ) (pages : PageMap) (level : ℕ) (row : Row) → 0 < level
    → RowStands dims pages level row → IsParted row → AreAscending (links_of row)
ascending dims pages level end high stands parted = λ i k other some lt within. absurd (omega (arith, within))
ascending dims pages level (more (object id kept) rest) high stands parted =
    absurd (omega (arith, high, stands.0))
ascending dims pages level (more (child key page below) end) high stands parted =
    λ i k other some lt within. absurd (omega (arith, some, lt, within))
ascending dims pages level (more (child key page below) (more (object id kept) rest)) high stands parted =
    absurd (omega (arith, high, stands.5.0))
ascending dims pages level (more (child key page below) (more (child k' p b) rest)) high stands parted =
    by_place
  where
    by_place : (i k : ℕ) (other : Link) → 1 ≤ i → i < k → k < length ((key, page) ∷ (k', p) ∷ links_of rest)
        → (get_or ((key, page) ∷ (k', p) ∷ links_of rest) i other).0
        < (get_or ((key, page) ∷ (k', p) ∷ links_of rest) k other).0
    by_place zero k other some lt within = absurd (omega (arith, some))
    by_place (suc i) zero other some lt within = absurd (omega (arith, lt))
    by_place (suc i) (suc k) other some lt within =
        ascend_from dims pages level k' p b rest i k other high stands.5 parted.2 parted.1.1
        (omega (arith, lt)) (omega (arith, within))
